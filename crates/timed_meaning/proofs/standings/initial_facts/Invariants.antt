use Rattle.std.proofs.Common.{◌≡◌, map, take}
use Rattle.timed_meaning.proofs.standings.initial_facts.Given as goal

abbrev pub invariant-loop-fact : goal.invariant-loop-fact
invariant-loop-fact l = l.out.items ≡ map (λ x. x.holds) (take l.fact-index l.facts)
