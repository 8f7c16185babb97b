use Rattle.std.proofs.Common.{sym, subst, take, ◌∷◌, []}
use Rattle.std.specs.Prelude.{slice_index_or}
use Rattle.std.proofs.lemmas.List.{take_more}
use Rattle.task_types.specs.Related.{ArePut}
use Rattle.task_types.proofs.LastEntries.{put_append}
use Rattle.task_types.proofs.touches.touch_rows.put_each.Goals as goal

pub loop-snap-preserved : goal.loop-snap-preserved
loop-snap-preserved c =
    subst (λ ss. ArePut c.args.rows.now.items c.put_once.new.rows.items c.args.entry.now.0 c.args.entry.now.1 ss) (sym (take_more c.args.snaps.now c.loop-snap.snap-index 0 c.loop-snap-test.true))
    (put_append c.args.rows.now.items c.loop-snap.rows.items c.put_once.new.rows.items c.args.entry.now.0 c.args.entry.now.1 (take c.loop-snap.snap-index c.args.snaps.now) (slice_index_or c.args.snaps.now c.loop-snap.snap-index 0 ∷ []) c.loop-snap.invariant (c.in_ok-put_once.ensures {u = tt}))
