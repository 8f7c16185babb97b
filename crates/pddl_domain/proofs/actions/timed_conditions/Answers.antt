use Rattle.std.proofs.Common.{◌∙◌, ap, ◌∷◌, []}
use Rattle.pddl_domain.specs.Actions.{timed_condition_of}
use Rattle.pddl_domain.specs.Held.{held}
use Rattle.pddl_domain.proofs.Holding.{only_one}
use Rattle.pddl_domain.proofs.actions.timed_conditions.Goals as goal

pub returns-in-None : goal.returns-in-None
returns-in-None c = c.new-found.ensures ∙ ap (λ o. held (timed_condition_of o)) c.in-None.ensures

pub returns-in_ok-push-in-Some : goal.returns-in_ok-push-in-Some
returns-in_ok-push-in-Some c = only_one _ _ _ c.new-found.ensures c.in_ok-push-in-Some.ensures.ok
    ∙ ap (λ v. v ∷ []) c.in_ok-timed_cond_tree-in-Some.ensures ∙ ap (λ o. held (timed_condition_of o)) c.in-Some.ensures
