use Rattle.pddl_domain.proofs.Building.{whole-domain}
use Rattle.pddl_domain.proofs.domains.domain_of.Goals as goal

pub returns : goal.returns
returns c = whole-domain _ _ c.in_ok-name.ensures.name c.in_ok-name.ensures.requirements c.in_ok-types.ensures.types c.in_ok-types.ensures.constants
    c.in_ok-predicates.ensures.predicates c.in_ok-predicates.ensures.functions c.in_ok-constraints.ensures c.in_ok-actions.ensures.actions c.in_ok-actions.ensures.left
