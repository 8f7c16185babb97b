use Rattle.std.proofs.Common.{◌≡◌, map, take}
use Rattle.std.specs.List.{AllByRecursion}
use Rattle.exact_lin.specs.Reckoning.{Fits, wide_limit}
use Rattle.timed_meaning.proofs.standings.initial_values.Given as goal

abbrev pub invariant-loop-fluent : goal.invariant-loop-fluent
invariant-loop-fluent l = (l.out.items ≡ map (λ x. x.value) (take l.fluent-index l.fluents)) × AllByRecursion (Fits wide_limit) l.out.items
