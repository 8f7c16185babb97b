use Rattle.std.proofs.Common.{◌≡◌, ◌++◌, take, drop}
use Rattle.grounder.specs.Task.{with_moment}
use Rattle.grounder.proofs.moments.slot.Given as goal

abbrev pub invariant-loop-place : goal.invariant-loop-place
invariant-loop-place l = with_moment l.moment l.moments ≡ take l.place l.moments ++ with_moment l.moment (drop l.place l.moments)
