use Rattle.std.proofs.Common.{◌∙◌, ap}
use Rattle.pddl_terms.proofs.Building.{answered}
use Rattle.pddl_domain.specs.Domains.{domain_of}
use Rattle.pddl_domain.proofs.Building.{domain_tree-end, domain_tree-word, domain_tree-list}
use Rattle.pddl_domain.proofs.domains.domain_tree.Goals as goal

pub returns-in-List : goal.returns-in-List
returns-in-List c = answered _ (ap domain_of c.next.ensures.behind ∙ domain_tree-list _ _ _ _ c.in-List.ensures.here) c.domain_of.ensures

pub returns-in-End : goal.returns-in-End
returns-in-End c = answered _ (domain_tree-end _ _ c.in-End.ensures) c.domain_of-in-End.ensures

pub returns-in-Word : goal.returns-in-Word
returns-in-Word c = answered _ (domain_tree-word _ _ _ c.in-Word.ensures.here) c.domain_of-in-Word.ensures
