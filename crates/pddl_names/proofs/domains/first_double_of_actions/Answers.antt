use Rattle.std.proofs.Common.{refl, ◌∷◌, []}
use Rattle.pddl_names.proofs.Doubling.{doubled-loop}
use Rattle.pddl_names.proofs.domains.first_double_of_actions.Goals as goal

pub loop-action-init : goal.loop-action-init
loop-action-init c = record { offences = refl; names = refl }

pub loop-action-preserved : goal.loop-action-preserved
loop-action-preserved c =
    doubled-loop (λ a. a.name ∷ []) _ _ _ _ _ c.action-item.result _ _ _ c.loop-action-test.true c.action-item.is c.loop-action.invariant c.earlier-found.ensures c.in_ok-other.ensures.offence c.in_ok-other.ensures.names
