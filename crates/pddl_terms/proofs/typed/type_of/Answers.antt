use Rattle.std.proofs.Common.{◌∙◌, ap, sym}
use Rattle.pddl_terms.specs.declared.trees.TypeName.TheVariants as type
use Rattle.pddl_terms.proofs.Building.{type_of-end, type_of-word, type_of-list}
use Rattle.pddl_terms.proofs.typed.type_of.Goals as goal

pub returns-in-End : goal.returns-in-End
returns-in-End c = sym (type_of-end _ _ c.in-End.ensures)

pub returns-in-List : goal.returns-in-List
returns-in-List c = sym (type_of-list _ _ _ _ c.in-List.ensures.here)

pub returns-in_ok-name_of-in-Word : goal.returns-in_ok-name_of-in-Word
returns-in_ok-name_of-in-Word c = ap type.Named c.in_ok-name_of-in-Word.ensures ∙ sym (type_of-word _ _ _ c.in-Word.ensures.here)
