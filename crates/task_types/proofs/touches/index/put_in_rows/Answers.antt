use Rattle.std.proofs.Common.{sym, subst, take, ◌∷◌, []}
use Rattle.std.specs.Prelude.{slice_index_or}
use Rattle.std.proofs.lemmas.List.{take_more}
use Rattle.task_types.specs.Related.{IsPut}
use Rattle.task_types.proofs.LeadingBack.{put_nowhere, put_append}
use Rattle.task_types.proofs.touches.index.put_in_rows.Goals as goal

pub loop-number-init : goal.loop-number-init
loop-number-init c = put_nowhere c.args.put c.args.rows.now.items

pub loop-number-preserved : goal.loop-number-preserved
loop-number-preserved c =
    subst (λ ns. IsPut c.args.rows.now.items c.put_at.new.rows.items ns c.args.put) (sym (take_more c.args.numbers.now c.loop-number.number-index 0 c.loop-number-test.true))
    (put_append c.args.put c.args.rows.now.items c.loop-number.rows.items c.put_at.new.rows.items (take c.loop-number.number-index c.args.numbers.now) (slice_index_or c.args.numbers.now c.loop-number.number-index 0 ∷ []) c.loop-number.invariant (c.in_ok-put_at.ensures {u = tt}))
