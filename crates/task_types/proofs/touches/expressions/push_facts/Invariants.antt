use Rattle.std.proofs.Common.{◌≡◌, ◌++◌, map, take}
use Rattle.task_types.proofs.touches.expressions.push_facts.Given as goal

abbrev pub invariant-loop-literal : goal.invariant-loop-literal
invariant-loop-literal l = l.out ≡ l.fn.out ++ map (λ x. x.fact) (take l.literal-index l.literal-items)
