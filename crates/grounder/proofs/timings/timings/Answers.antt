use Rattle.std.proofs.Common.{[]}
use Rattle.ground_world.specs.Shown.{world_of}
use Rattle.grounder.specs.Task.{timing}
use Rattle.grounder.specs.ShownTimings.{timings_of}
use Rattle.grounder.proofs.OneByOne.{joined_more}
use Rattle.grounder.proofs.timings.timings.Goals as goal

pub loop-entry-preserved : goal.loop-entry-preserved
loop-entry-preserved c =
    joined_more c.args.entries.now c.loop-entry.entry-index c.entry-item.result c.loop-entry-test.true c.entry-item.is
    (timing (world_of c.args.tables.now)) [] (timings_of c.loop-entry.out) (timings_of c.push_entry.new.out) c.loop-entry.invariant c.in_ok-push_entry.ensures
