use Rattle.std.proofs.Common.{◌∙◌, ap, sym}
use Rattle.std.specs.Prelude.{◌||◌, ◌==◌}
use Rattle.std.specs.List.{list_any}
use Rattle.plan_validator.proofs.Meets.{entries-either}
use Rattle.plan_validator.proofs.disturbing.writes.Goals as goal

pub returns : goal.returns
returns c = c.either.ensures ∙ ap (λ b. b || c.has_entry.result) (c.has_entry-assigns.ensures ∙ ap (list_any (λ e. e.0 == c.args.fluent)) c.as_slice.ensures)
    ∙ ap (λ b. list_any (λ e. e.0 == c.args.fluent) c.args.snap.now.effect.assigns || b) (c.has_entry.ensures ∙ ap (list_any (λ e. e.0 == c.args.fluent)) c.as_slice-2.ensures)
    ∙ sym (entries-either c.args.fluent c.args.snap.now.effect.assigns c.args.snap.now.effect.increases)
