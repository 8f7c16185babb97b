use Rattle.std.proofs.Common.{take}
use Rattle.std.specs.List.{flat_map}
use Rattle.task_types.specs.Related.{ArePut, row_of}
use Rattle.task_types.proofs.touches.touch_rows.put_from_each.Given as goal

abbrev pub invariant-loop-id : goal.invariant-loop-id
invariant-loop-id g l = ArePut l.fn.rows.items l.rows.items l.entry.0 l.entry.1 (flat_map (λ id. row_of l.table (g.I.Id.number_of id)) (take l.id-index l.ids))
