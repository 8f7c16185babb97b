use Rattle.pddl_terms.proofs.Reading.{reads-tree, reads-shape}
use Rattle.pddl_terms.proofs.readers.read_constraint.Goals as goal

pub returns-in-Some : goal.returns-in-Some
returns-in-Some c = reads-shape _ _ _ c.in-Some.ensures

pub returns : goal.returns
returns c = reads-tree _ _ _ c.in_default.ensures c.in_ok-con_tree.ensures
