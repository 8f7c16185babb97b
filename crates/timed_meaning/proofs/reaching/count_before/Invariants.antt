use Rattle.std.proofs.Common.{◌≡◌, ◌+◌, drop}
use Rattle.task_types.specs.Course.{count_before}
use Rattle.timed_meaning.proofs.reaching.count_before.Given as goal

abbrev pub invariant-loop-i : goal.invariant-loop-i
invariant-loop-i l = l.i + count_before l.to (drop l.i l.times) ≡ count_before l.to l.times
