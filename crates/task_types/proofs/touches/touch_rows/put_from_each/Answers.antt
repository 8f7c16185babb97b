use Rattle.std.proofs.Common.{sym, subst, take}
use Rattle.std.specs.List.{flat_map}
use Rattle.task_types.specs.Related.{ArePut, row_of}
use Rattle.task_types.proofs.LastEntries.{put_append}
use Rattle.task_types.proofs.Places.{flat_map-take-more}
use Rattle.task_types.proofs.touches.touch_rows.put_from_each.Goals as goal

pub loop-id-preserved : goal.loop-id-preserved
loop-id-preserved g c =
    subst (λ ss. ArePut c.args.rows.now.items c.put_from.new.rows.items c.args.entry.now.0 c.args.entry.now.1 ss)
    (sym (flat_map-take-more (λ id. row_of c.args.table.now (g.I.Id.number_of id)) c.args.ids.now c.loop-id.id-index c.id-item.result c.loop-id-test.true c.id-item.is))
    (put_append c.args.rows.now.items c.loop-id.rows.items c.put_from.new.rows.items c.args.entry.now.0 c.args.entry.now.1 (flat_map (λ id. row_of c.args.table.now (g.I.Id.number_of id)) (take c.loop-id.id-index c.args.ids.now)) (row_of c.args.table.now (g.I.Id.number_of c.id-item.result))
    c.loop-id.invariant (subst (λ n. ArePut c.loop-id.rows.items c.put_from.new.rows.items c.args.entry.now.0 c.args.entry.now.1 (row_of c.args.table.now n)) c.number.ensures (c.in_ok-put_from.ensures {u = tt})))
