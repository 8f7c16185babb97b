use Rattle.ground_world.specs.Shown.{env_of, world_of}
use Rattle.grounder.specs.ShownPreferences.{preference_of}
use Rattle.grounder.specs.Terms.{preference_atoms}
use Rattle.grounder.proofs.OneByOne.{added_of_more}
use Rattle.grounder.proofs.PreferenceSteps.{part_within}
use Rattle.grounder.proofs.mentioned_atoms.add_preference_parts.Goals as goal

pub add_preference_part-requires : goal.add_preference_part-requires
add_preference_part-requires c =
    part_within (world_of c.args.tables.now) c.args.parts.now c.loop-part.part-index c.part-item.result c.loop-part-test.true c.part-item.is c.requires

pub loop-part-preserved : goal.loop-part-preserved
loop-part-preserved c =
    added_of_more c.args.parts.now c.loop-part.part-index c.part-item.result c.loop-part-test.true c.part-item.is
    preference_of (preference_atoms (world_of c.args.tables.now) (env_of c.args.env.now)) c.args.atoms.now c.loop-part.atoms c.add_preference_part.new.atoms c.loop-part.invariant c.in_ok-add_preference_part.ensures
