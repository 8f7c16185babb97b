use Rattle.std.proofs.Common.{◌≡◌, [], ◌∷◌, take, not}
use Rattle.std.specs.List.{filter}
use Rattle.task_types.specs.Sets.{is_in}
use Rattle.rate_ledger.proofs.running.without.Given as goal

abbrev pub invariant-loop-action : goal.invariant-loop-action
invariant-loop-action l = l.out ≡ filter (λ a. not (is_in a (l.own ∷ []))) (take l.action-index l.running)
