use Rattle.std.proofs.Common.{◌≡◌, ◌++◌, length}
use Rattle.timed_meaning.specs.Sorts.{NeverFall, times}
use Rattle.timed_meaning.proofs.times.times_of.Given as goal

abbrev pub invariant-loop-first : goal.invariant-loop-first
invariant-loop-first l = NeverFall l.rest × (l.out.items ++ times l.rest ≡ times l.steps)

abbrev pub decreases-loop-first : goal.decreases-loop-first
decreases-loop-first l = length l.rest
