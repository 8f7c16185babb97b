use Rattle.std.proofs.Common.{◌≡◌, ◌++◌, map, take}
use Rattle.task_types.proofs.touches.expressions.push_form.Given as goal

abbrev pub invariant-loop-term : goal.invariant-loop-term
invariant-loop-term l = l.out ≡ l.fn.out ++ map (λ t. t.0) (take l.term-index l.term-items)
