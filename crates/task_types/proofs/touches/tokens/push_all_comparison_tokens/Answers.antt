use Rattle.std.proofs.Common.{arith, append_assoc}
use Rattle.task_types.specs.Touch.{comparison_tokens}
use Rattle.task_types.proofs.Places.{flat_map-enumerate-more}
use Rattle.task_types.proofs.touches.tokens.push_all_comparison_tokens.Goals as goal

pub loop-place-preserved : goal.loop-place-preserved
loop-place-preserved c = let more = flat_map-enumerate-more (λ a. comparison_tokens a.0 a.1) c.args.actions.now c.loop-place.place c.index-actions-place.result c.loop-place-test.true c.index-actions-place.is in grind (arith, append_assoc, more)
