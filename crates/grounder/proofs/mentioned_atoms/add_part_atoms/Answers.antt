use Rattle.ground_world.specs.Shown.{part_of}
use Rattle.grounder.specs.Terms.{part_atoms}
use Rattle.grounder.proofs.OneByOne.{added_of_more}
use Rattle.grounder.proofs.mentioned_atoms.add_part_atoms.Goals as goal

pub loop-part-preserved : goal.loop-part-preserved
loop-part-preserved c =
    added_of_more c.args.parts.now c.loop-part.part-index c.part-item.result c.loop-part-test.true c.part-item.is
    part_of part_atoms c.args.atoms.now c.loop-part.atoms c.add_part_atom.new.atoms c.loop-part.invariant c.in_ok-add_part_atom.ensures
