use Rattle.std.proofs.Common.{◌≡◌, ◌++◌, map, take}
use Rattle.grounder.specs.Task.{timed_snap}
use Rattle.grounder.specs.ShownGrounding.{ground_of}
use Rattle.grounder.specs.ShownTimings.{timings_of}
use Rattle.grounder.proofs.moments.push_timed_snaps.Given as goal

abbrev pub invariant-loop-moment : goal.invariant-loop-moment
invariant-loop-moment l = l.out ≡ l.fn.out ++ map (timed_snap (ground_of l.grounding) (timings_of l.timings)) (take l.moment-index l.moments)
