use Rattle.std.proofs.Common.{◌≡◌, ◌++◌, take}
use Rattle.std.specs.List.{flat_map, filter}
use Rattle.task_types.specs.Clash.{form_fluents, is_read_at}
use Rattle.task_types.proofs.touches.relations.push_read_bounds.Given as goal

abbrev pub invariant-loop-bound : goal.invariant-loop-bound
invariant-loop-bound l = l.out ≡ l.fn.out ++ flat_map (λ b. form_fluents b.form) (filter (is_read_at l.kind) (take l.bound-index l.bounds))
