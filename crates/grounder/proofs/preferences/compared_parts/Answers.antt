use Rattle.std.proofs.Common.{[]}
use Rattle.ground_world.specs.Shown.{env_of, world_of, parts_of}
use Rattle.grounder.specs.ShownPreferences.{preference_of, compared_parts}
use Rattle.grounder.proofs.OneByOne.{joined_of_more}
use Rattle.grounder.proofs.PreferenceSteps.{part_within}
use Rattle.grounder.proofs.preferences.compared_parts.Goals as goal

pub push_compared-requires : goal.push_compared-requires
push_compared-requires c =
    part_within (world_of c.args.tables.now) c.args.parts.now c.loop-part.part-index c.part-item.result c.loop-part-test.true c.part-item.is c.requires

pub loop-part-preserved : goal.loop-part-preserved
loop-part-preserved c =
    joined_of_more c.args.parts.now c.loop-part.part-index c.part-item.result c.loop-part-test.true c.part-item.is
    preference_of (compared_parts (world_of c.args.tables.now) (env_of c.args.env.now)) [] (parts_of c.loop-part.out) (parts_of c.push_compared.new.out) c.loop-part.invariant c.in_ok-push_compared.ensures
