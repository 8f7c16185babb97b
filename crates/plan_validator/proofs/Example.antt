-- The small task of the tests is well made.
use Rattle.std.proofs.Common.{◌≡◌, refl, ◌∙◌}
use Rattle.rational.specs.Gcd.{gcd}
use Rattle.rational.specs.Rational.{ratio, whole, cmp_ℚ}
use Rattle.task_types.specs.WellMade.{IsWellMade}
use Rattle.plan_validator.specs.ExampleTask.{gate}
use Rattle.task_types.proofs.FormulaParts.{tree_fits-true, tree_fits-is}

pub well_made : IsWellMade gate
unfolding gcd ratio whole cmp_ℚ
well_made = record { objects = refl; schemas = refl; facts = refl; fluents = refl; actions = refl; snaps = refl; numbered = refl; timed = refl; goal = refl; terms = simp (tree_fits-true, tree_fits-is); metric = refl }
