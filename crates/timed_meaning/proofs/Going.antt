-- The small task of the tests is well made, and its plan has two happenings.
use Rattle.std.proofs.Common.{◌<◌, refl, lit<}
use Rattle.rational.specs.Gcd.{gcd}
use Rattle.rational.specs.Rational.{ratio, whole, cmp_ℚ, ◌+ℚ◌}
use Rattle.task_types.specs.Plan.{happenings}
use Rattle.task_types.specs.Course.{count}
use Rattle.task_types.specs.WellMade.{IsWellMade}
use Rattle.timed_meaning.specs.ExampleTask.{going, going_once}

pub well_made : IsWellMade going
unfolding gcd ratio whole cmp_ℚ
well_made = record { objects = refl; schemas = refl; facts = refl; fluents = refl; actions = refl; snaps = refl; numbered = refl; timed = refl; goal = refl; terms = refl; metric = refl }

pub two_happenings : 1 < count going going_once
unfolding gcd ratio whole cmp_ℚ ◌+ℚ◌ happenings
two_happenings = lit< tt
