use Rattle.std.proofs.Common.{◌≡◌, ◌++◌, take}
use Rattle.task_types.proofs.touches.expressions.push_ids.Given as goal

abbrev pub invariant-loop-fact : goal.invariant-loop-fact
invariant-loop-fact l = l.out ≡ l.fn.out ++ (take l.fact-index l.facts)
