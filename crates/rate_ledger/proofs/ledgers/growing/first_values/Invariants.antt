use Rattle.std.proofs.Common.{◌≡◌, map, take}
use Rattle.rate_ledger.proofs.ledgers.growing.first_values.Given as goal

abbrev pub invariant-loop-fluent : goal.invariant-loop-fluent
invariant-loop-fluent l = l.out ≡ map (λ f. f.value) (take l.fluent-index l.fluents)
