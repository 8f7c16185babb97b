use Rattle.std.proofs.Common.{◌∙◌, ap, sym}
use Rattle.std.specs.Prelude.{◌||◌}
use Rattle.std.specs.List.{list_any}
use Rattle.task_types.specs.Sets.{is_in, meet}
use Rattle.task_types.specs.Clash.{form_fluents, written_fluents}
use Rattle.plan_validator.proofs.Meets.{flat-either}
use Rattle.plan_validator.proofs.disturbing.effects_written.Goals as goal

pub returns : goal.returns
returns c = c.either.ensures ∙ ap (λ b. b || c.amounts_written.result) (c.amounts_written-assigns.ensures ∙ ap (list_any (λ e. meet (form_fluents e.1.form) (written_fluents c.args.by.now))) c.as_slice.ensures)
    ∙ ap (λ b. list_any (λ e. meet (form_fluents e.1.form) (written_fluents c.args.by.now)) c.args.snap.now.effect.assigns || b) (c.amounts_written.ensures ∙ ap (list_any (λ e. meet (form_fluents e.1.form) (written_fluents c.args.by.now))) c.as_slice-2.ensures)
    ∙ sym (flat-either (λ x. is_in x (written_fluents c.args.by.now)) (λ e. form_fluents e.1.form) c.args.snap.now.effect.assigns c.args.snap.now.effect.increases)
