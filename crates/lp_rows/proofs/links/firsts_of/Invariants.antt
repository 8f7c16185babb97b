use Rattle.std.proofs.Common.{◌≡◌, ◌==◌, map, take}
use Rattle.std.specs.List.{filter}
use Rattle.lp_rows.proofs.links.firsts_of.Given as goal

abbrev pub invariant-loop-pair : goal.invariant-loop-pair
invariant-loop-pair l = l.out ≡ map (λ p. p.0) (filter (λ p. p.1 == l.second) (take l.pair-index l.extra))
