use Rattle.std.proofs.Common.{arith, append_assoc}
use Rattle.std.specs.Prelude.{is_some}
use Rattle.task_types.specs.declared.tokens.Token.TheVariants as token
use Rattle.task_types.proofs.Places.{map-filter-enumerate-more}
use Rattle.task_types.proofs.touches.tokens.push_action_tokens.Goals as goal

pub loop-place-preserved : goal.loop-place-preserved
loop-place-preserved c = let more = map-filter-enumerate-more (λ a. token.Action a.0) (λ a. is_some a.1.end) c.args.actions.now c.loop-place.place c.index-actions-place.result c.loop-place-test.true c.index-actions-place.is in grind (arith, append_assoc, more)
