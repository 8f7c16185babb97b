use Rattle.std.proofs.Common.{List, take, ◌++◌}
use Rattle.std.specs.List.{flat_map}
use Rattle.ground_world.specs.FirstState.{timed_predicate}
use Rattle.ground_world.proofs.Marking.{marks_none, marks_loop}
use Rattle.ground_world.proofs.changing.mark_all_timed.Goals as goal

pub loop-entry-init : goal.loop-entry-init
loop-entry-init c = λ before h. marks_none _ _ before h

pub loop-entry-preserved : goal.loop-entry-preserved
loop-entry-preserved c = λ before h.
    marks_loop timed_predicate c.args.names.now _ before c.args.entries.now c.loop-entry.entry-index c.entry-item.result c.loop-entry-test.true c.entry-item.is
    (c.in_ok-mark_timed.ensures (before ++ flat_map timed_predicate (take c.loop-entry.entry-index c.args.entries.now)) (c.loop-entry.invariant before h))
