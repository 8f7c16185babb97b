use Rattle.std.proofs.Common.{[]}
use Rattle.std.specs.List.{flat_map}
use Rattle.ground_world.specs.Conditions.{tests_in}
use Rattle.ground_world.specs.FirstState.{unvalued_places}
use Rattle.ground_world.specs.Shown.{world_of, part_of, parts_of}
use Rattle.grounder.specs.Instances.{test_mentions}
use Rattle.grounder.proofs.Pushing.{pushed}
use Rattle.grounder.proofs.MentionSteps.{in_parts-more}
use Rattle.grounder.proofs.mentions.push_in_parts.Goals as goal

pub loop-part-preserved : goal.loop-part-preserved
loop-part-preserved c =
    let w = world_of c.args.tables.now in
    pushed (λ ps. unvalued_places w (flat_map (test_mentions w) (flat_map tests_in (parts_of ps)))) (λ p. unvalued_places w (flat_map (test_mentions w) (tests_in (part_of p)))) (in_parts-more w [])
    c.args.out.now c.loop-part.out c.push_in_part.new.out c.args.parts.now c.loop-part.part-index c.part-item.result c.loop-part-test.true c.part-item.is c.loop-part.invariant c.in_ok-push_in_part.ensures
