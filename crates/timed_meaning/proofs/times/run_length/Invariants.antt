use Rattle.std.proofs.Common.{◌≡◌, ◌+◌, length, drop}
use Rattle.timed_meaning.specs.Sorts.{run}
use Rattle.timed_meaning.proofs.times.run_length.Given as goal

abbrev pub invariant-loop-i : goal.invariant-loop-i
invariant-loop-i l = length (run l.time (drop l.i l.steps)) + l.i ≡ length (run l.time l.steps)
