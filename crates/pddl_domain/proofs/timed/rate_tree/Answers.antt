use Rattle.pddl_terms.proofs.Building.{answered}
use Rattle.pddl_domain.proofs.Building.{rate_tree-end, rate_tree-word, rate_tree-list}
use Rattle.pddl_domain.proofs.timed.rate_tree.Goals as goal

pub returns-in-End : goal.returns-in-End
returns-in-End c = rate_tree-end _ _ c.in-End.ensures

pub returns-in-Word : goal.returns-in-Word
returns-in-Word c = rate_tree-word _ _ _ c.in-Word.ensures.here

pub returns-in-List : goal.returns-in-List
returns-in-List c = answered _ (rate_tree-list _ _ _ _ c.in-List.ensures.here) c.rate_list.ensures
