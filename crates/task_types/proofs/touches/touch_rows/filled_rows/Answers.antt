use Rattle.std.proofs.Common.{subst}
use Rattle.task_types.specs.Related.{IsPutInAll}
use Rattle.task_types.proofs.TouchRows.{token_more}
use Rattle.task_types.proofs.touches.touch_rows.filled_rows.Goals as goal

pub loop-place-preserved : goal.loop-place-preserved
loop-place-preserved c = token_more c.args.parts.now c.args.index.now c.loop-place.rows.items c.put_token.new.rows.items c.args.tokens.now c.loop-place.place c.index-tokens-place.result c.requires.index c.loop-place-test.true c.index-tokens-place.is c.loop-place.invariant
    (subst (λ k. IsPutInAll c.loop-place.rows.items c.put_token.new.rows.items c.args.index.now k c.index-tokens-place.result) c.of.ensures (c.in_ok-put_token.ensures {u = tt}))
