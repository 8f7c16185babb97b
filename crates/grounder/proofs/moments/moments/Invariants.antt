use Rattle.std.proofs.Common.{◌≡◌, ◌≤◌, length, drop}
use Rattle.grounder.specs.Task.{moments}
use Rattle.grounder.specs.ShownTimings.{timings_of}
use Rattle.grounder.proofs.moments.moments.Given as goal

abbrev pub decreases-loop-left : goal.decreases-loop-left
decreases-loop-left l = l.left

abbrev pub invariant-loop-left : goal.invariant-loop-left
invariant-loop-left l = (l.out.items ≡ moments (timings_of (drop l.left l.timings))) × (l.left ≤ length l.timings)
