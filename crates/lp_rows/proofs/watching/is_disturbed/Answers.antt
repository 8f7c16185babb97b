use Rattle.std.proofs.Common.{sym, ◌∙◌}
use Rattle.std.proofs.lemmas.List.{map-id}
use Rattle.ordering.specs.Along.{changes}
use Rattle.lp_rows.proofs.RowParts.{any_first}
use Rattle.lp_rows.proofs.watching.is_disturbed.Goals as goal

pub returns : goal.returns
returns c = c.changes_any.ensures ∙ any_first (changes c.args.task.now.parts c.args.snap.now) c.terms.result.now c.args.form.now.terms (sym (map-id c.terms.result.now) ∙ c.terms.ensures.value)
