use Rattle.std.proofs.Common.{take, ◌∷◌, []}
use Rattle.pddl_names.proofs.Doubling.{Doubled}
use Rattle.pddl_names.proofs.domains.first_double_of_actions.Given as goal

abbrev pub invariant-loop-action : goal.invariant-loop-action
invariant-loop-action l = Doubled (λ a. a.name ∷ []) l.initial.seen l.seen l.found (take l.action-index l.actions)
