use Rattle.std.proofs.Common.{List, take, ◌++◌}
use Rattle.std.specs.List.{flat_map}
use Rattle.pddl_names.specs.Declarations.{Text}
use Rattle.ground_world.specs.FirstState.{changed_function}
use Rattle.ground_world.specs.ShownChanges.{change_of}
use Rattle.ground_world.specs.declared.changes.StagedChange.{StagedChange}
use Rattle.ground_world.proofs.Marking.{marks_none, marks_loop}
use Rattle.ground_world.proofs.changing.mark_functions.Goals as goal

pub loop-staged-init : goal.loop-staged-init
loop-staged-init c = λ before h. marks_none _ _ before h

pub loop-staged-preserved : goal.loop-staged-preserved
loop-staged-preserved c = λ before h.
    let own : StagedChange → List Text = λ s. changed_function (change_of s.change) in
    marks_loop own c.args.names.now _ before c.args.changes.now c.loop-staged.staged-index c.staged-item.result c.loop-staged-test.true c.staged-item.is
    (c.in_ok-mark_function.ensures (before ++ flat_map own (take c.loop-staged.staged-index c.args.changes.now)) (c.loop-staged.invariant before h))
