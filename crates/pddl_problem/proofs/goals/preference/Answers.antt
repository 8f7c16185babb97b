use Rattle.std.proofs.Common.{◌∙◌, ap, None}
use Rattle.pddl_terms.specs.declared.trees.GoalTree.TheVariants as goals
use Rattle.pddl_problem.proofs.Building.{preference-end, preference-word, preference-list}
use Rattle.pddl_problem.proofs.goals.preference.Goals as goal

pub returns-in-End : goal.returns-in-End
returns-in-End c = preference-end c.args.place _ _ c.in-End.ensures

pub returns-in_ok-soft_tree-in-Word : goal.returns-in_ok-soft_tree-in-Word
returns-in_ok-soft_tree-in-Word c = preference-word c.args.place _ _ _ c.in-Word.ensures.here _ _ c.in_ok-name-in-Word.ensures c.in_ok-soft_tree-in-Word.ensures

pub returns-in_ok-soft_tree-in-List : goal.returns-in_ok-soft_tree-in-List
returns-in_ok-soft_tree-in-List c = ap (goals.Preference c.args.place None) c.in_ok-soft_tree-in-List.ensures ∙ preference-list c.args.place _ _ _ _ c.in-List.ensures.here
