use Rattle.std.proofs.Common.{◌∙◌, ap}
use Rattle.pddl_terms.specs.declared.trees.Call.TheVariants as call
use Rattle.pddl_terms.proofs.Building.{answered}
use Rattle.pddl_terms.proofs.Sectioning.{call_tree-end, call_tree-word, call_tree-list}
use Rattle.pddl_terms.proofs.calls.call_tree.Goals as goal

pub returns-in-End : goal.returns-in-End
returns-in-End c = call_tree-end _ _ c.in-End.ensures

pub returns-in_ok-bare_atom-in-Word : goal.returns-in_ok-bare_atom-in-Word
returns-in_ok-bare_atom-in-Word c = ap call.Named c.in_ok-bare_atom-in-Word.ensures ∙ call_tree-word _ _ _ c.in-Word.ensures.here

pub returns-in-List : goal.returns-in-List
returns-in-List c = answered _ (call_tree-list _ _ _ _ c.in-List.ensures.here) c.call_list.ensures
