use Rattle.std.proofs.Common.{◌≡◌, ◌++◌, take}
use Rattle.std.specs.List.{flat_map}
use Rattle.task_types.specs.Clash.{form_fluents}
use Rattle.task_types.proofs.touches.tracked.push_bounds.Given as goal

abbrev pub invariant-loop-bound : goal.invariant-loop-bound
invariant-loop-bound l = l.out ≡ l.fn.out ++ flat_map (λ b. form_fluents b.form) (take l.bound-index l.bounds)
