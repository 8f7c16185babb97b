use Rattle.std.proofs.Common.{◌≡◌, map, take}
use Rattle.task_types.proofs.touches.tokens.fluents_of.Given as goal

abbrev pub invariant-loop-term : goal.invariant-loop-term
invariant-loop-term l = l.fluents ≡ map (λ t. t.0) (take l.term-index l.term-items)
