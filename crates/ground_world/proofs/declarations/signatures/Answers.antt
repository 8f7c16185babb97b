use Rattle.std.proofs.Common.{take, []}
use Rattle.std.specs.List.{flat_map}
use Rattle.pddl_names.specs.Declarations.{signature_of, with_firsts}
use Rattle.ground_world.proofs.FirstDeclared.{lists-loop}
use Rattle.ground_world.proofs.declarations.signatures.Goals as goal

pub loop-declared-preserved : goal.loop-declared-preserved
loop-declared-preserved c =
    lists-loop signature_of [] _ c.loop-declared.declared-index c.declared-item.result _ _ c.loop-declared-test.true c.declared-item.is
    (c.in_ok-add_declared.ensures (with_firsts [] (flat_map signature_of (take c.loop-declared.declared-index c.args.list.now))) c.loop-declared.invariant)
