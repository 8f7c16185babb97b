-- The small task of the tests is well made.
use Rattle.std.proofs.Common.{◌≡◌, refl, sym, ap, ◌∙◌, Bool, true, [], length}
use Rattle.rational.specs.Gcd.{gcd}
use Rattle.rational.specs.Rational.{ratio, whole, cmp_ℚ}
use Rattle.task_types.specs.declared.formulas.FactTree.{FactTree, fold-FactTree, fold-roll-FactTree}
use Rattle.task_types.specs.declared.formulas.FactTree.TheOpen.{FactTree-F}
use Rattle.task_types.specs.declared.formulas.FactTree.TheVariants as tree
use Rattle.task_types.specs.declared.formulas.FactTree.TheVariants.{rolls-Or}
use Rattle.task_types.specs.declared.parts.TaskParts.{TaskParts}
use Rattle.task_types.specs.WellMade.{IsWellMade, parts_fit, tree_fits}
use Rattle.metric_cost.specs.ExampleTask.{going}
use Rattle.task_types.proofs.FormulaParts.{tree_fits-true}

tree_fits-or : (task : TaskParts) → tree_fits task (tree.Or []) ≡ true
unfolding tree_fits
tree_fits-or task = ap (λ t. fold-FactTree Bool (parts_fit (length task.facts)) t) (sym (rolls-Or [])) ∙ fold-roll-FactTree Bool (parts_fit (length task.facts)) (FactTree-F.Or [])

pub well_made : IsWellMade going
unfolding gcd ratio whole cmp_ℚ
well_made = record { objects = refl; schemas = refl; facts = refl; fluents = refl; actions = refl; snaps = refl; numbered = refl; timed = refl; goal = refl; terms = simp (tree_fits-true, tree_fits-or); metric = refl }
