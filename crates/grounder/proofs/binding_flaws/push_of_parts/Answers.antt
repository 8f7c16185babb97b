use Rattle.std.proofs.Common.{[]}
use Rattle.std.specs.List.{flat_map}
use Rattle.ground_world.specs.Conditions.{tests_in}
use Rattle.ground_world.specs.Shown.{world_of, part_of, parts_of}
use Rattle.grounder.specs.Bindings.{test_flaws}
use Rattle.grounder.proofs.Pushing.{pushed}
use Rattle.grounder.proofs.Flawed.{of_parts-more}
use Rattle.grounder.proofs.binding_flaws.push_of_parts.Goals as goal

pub loop-part-preserved : goal.loop-part-preserved
loop-part-preserved c =
    let w = world_of c.args.tables.now in
    pushed (λ ps. test_flaws w (flat_map tests_in (parts_of ps))) (λ p. test_flaws w (tests_in (part_of p))) (of_parts-more w [])
    c.args.flaws.now c.loop-part.flaws c.push_of_part.new.flaws c.args.parts.now c.loop-part.part-index c.part-item.result c.loop-part-test.true c.part-item.is c.loop-part.invariant c.in_ok-push_of_part.ensures
