use Rattle.std.proofs.Common.{◌∙◌, ap, sym}
use Rattle.std.specs.List.{list_any}
use Rattle.task_types.specs.Sets.{is_in}
use Rattle.task_types.specs.Clash.{written_fluents}
use Rattle.plan_validator.proofs.Meets.{any-map}
use Rattle.plan_validator.proofs.disturbing.assigns_written.Goals as goal

pub returns : goal.returns
returns c = c.entries_written.ensures ∙ ap (list_any (λ e. is_in e.0 (written_fluents c.args.other.now))) c.as_slice.ensures
    ∙ sym (any-map (λ x. is_in x (written_fluents c.args.other.now)) (λ e. e.0) c.args.one.now.effect.assigns)
