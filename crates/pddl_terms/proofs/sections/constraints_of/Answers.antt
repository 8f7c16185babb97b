use Rattle.std.proofs.Common.{◌∙◌, ap, Some}
use Rattle.pddl_terms.specs.Sections.{constraints_of}
use Rattle.pddl_terms.proofs.sections.constraints_of.Goals as goal

pub returns-in-None : goal.returns-in-None
returns-in-None c = ap constraints_of c.in-None.ensures

pub returns-in_ok-con_tree-in-Some : goal.returns-in_ok-con_tree-in-Some
returns-in_ok-con_tree-in-Some c = ap Some c.in_ok-con_tree-in-Some.ensures ∙ ap constraints_of c.in-Some.ensures
