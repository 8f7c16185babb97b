use Rattle.std.proofs.Common.{◌≡◌, take}
use Rattle.grounder.specs.Task.{literals_at}
use Rattle.grounder.specs.ShownGrounding.{ground_of}
use Rattle.grounder.specs.ShownTimings.{timings_of}
use Rattle.grounder.proofs.moments.literals_at.Given as goal

abbrev pub invariant-loop-timing : goal.invariant-loop-timing
invariant-loop-timing l = l.out ≡ literals_at (ground_of l.grounding) (timings_of (take l.timing-index l.timings)) l.moment l.holds
