use Rattle.std.proofs.Common.{take, []}
use Rattle.std.specs.List.{flat_map}
use Rattle.pddl_names.specs.Declarations.{with_firsts}
use Rattle.ground_world.specs.FirstState.{given_value}
use Rattle.ground_world.specs.Shown.{world_of}
use Rattle.ground_world.proofs.FirstDeclared.{lists-loop}
use Rattle.ground_world.proofs.first_state.first_values.Goals as goal

pub loop-entry-preserved : goal.loop-entry-preserved
loop-entry-preserved c =
    let own = given_value (world_of c.args.tables.now) in
    lists-loop own [] c.args.entries.now c.loop-entry.entry-index c.entry-item.result _ _ c.loop-entry-test.true c.entry-item.is
    (c.in_ok-add_given.ensures (with_firsts [] (flat_map own (take c.loop-entry.entry-index c.args.entries.now))) c.loop-entry.invariant)
