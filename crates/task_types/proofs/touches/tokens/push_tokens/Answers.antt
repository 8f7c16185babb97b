use Rattle.std.proofs.Common.{map}
use Rattle.task_types.specs.declared.tokens.Token.TheVariants as token
use Rattle.task_types.specs.Sets.{are_several}
use Rattle.task_types.specs.Touch.{tokens, trail_facts, soft_facts}
use Rattle.basics.proofs.Lists.{map-filter-append}
use Rattle.task_types.proofs.Places.{six_put}
use Rattle.task_types.proofs.touches.tokens.push_tokens.Goals as goal

pub returns : goal.returns
unfolding tokens
returns c = six_put _ _ _ _ _ _ _ _ _ _ _ _ _ _ (rw c.len.ensures at (c.in_ok-push_fact_tokens.ensures {u = tt})) (c.in_ok-push_tracked_tokens.ensures {u = tt}) (rw c.as_slice.ensures at (c.in_ok-push_all_comparison_tokens.ensures {u = tt}))
    (rw c.as_slice-2.ensures at (c.in_ok-push_trail_tokens.ensures {u = tt})) (rw c.as_slice-3.ensures at (c.in_ok-push_soft_tokens.ensures {u = tt})) (rw c.as_slice-4.ensures at (c.in_ok-push_action_tokens.ensures {u = tt}))
    (map-filter-append token.Formulas are_several (map trail_facts c.args.parts.now.hard) (map soft_facts c.args.parts.now.soft))
