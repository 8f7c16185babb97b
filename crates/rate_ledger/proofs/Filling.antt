-- The small task of the tests is well made.
use Rattle.std.proofs.Common.{refl}
use Rattle.rational.specs.Gcd.{gcd}
use Rattle.rational.specs.Rational.{ratio, whole, cmp_ℚ, ◌+ℚ◌}
use Rattle.task_types.specs.WellMade.{IsWellMade}
use Rattle.rate_ledger.specs.ExampleTask.{filling}

pub well_made : IsWellMade filling
unfolding gcd ratio whole cmp_ℚ ◌+ℚ◌
well_made = record { objects = refl; schemas = refl; facts = refl; fluents = refl; actions = refl; snaps = refl; numbered = refl; timed = refl; goal = refl; terms = refl; metric = refl }
