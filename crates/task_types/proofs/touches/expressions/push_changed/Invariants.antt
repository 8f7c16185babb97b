use Rattle.std.proofs.Common.{◌≡◌, ◌++◌, map, take}
use Rattle.task_types.proofs.touches.expressions.push_changed.Given as goal

abbrev pub invariant-loop-change : goal.invariant-loop-change
invariant-loop-change l = l.out ≡ l.fn.out ++ map (λ e. e.0) (take l.change-index l.changes)
