use Rattle.std.proofs.Common.{◌≡◌, ◌++◌, take}
use Rattle.std.specs.List.{flat_map}
use Rattle.task_types.specs.Clash.{form_fluents}
use Rattle.task_types.proofs.touches.expressions.push_amounts.Given as goal

abbrev pub invariant-loop-change : goal.invariant-loop-change
invariant-loop-change l = l.out ≡ l.fn.out ++ flat_map (λ e. form_fluents e.1.form) (take l.change-index l.changes)
