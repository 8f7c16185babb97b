use Rattle.std.proofs.Common.{◌≡◌, take}
use Rattle.std.specs.List.{flat_map}
use Rattle.ground_world.specs.Shown.{world_of}
use Rattle.grounder.specs.Task.{timing}
use Rattle.grounder.specs.ShownTimings.{timings_of}
use Rattle.grounder.proofs.timings.timings.Given as goal

abbrev pub invariant-loop-entry : goal.invariant-loop-entry
invariant-loop-entry l = timings_of l.out ≡ flat_map (timing (world_of l.tables)) (take l.entry-index l.entries)
