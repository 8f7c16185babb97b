use Rattle.std.proofs.Common.{sym, ◌∙◌}
use Rattle.ordering.proofs.RunningActions.{without_at}
use Rattle.task_types.proofs.StepCounts.{nothing_lost}
use Rattle.ordering.proofs.running.remove_action.Goals as goal

pub returns-in-Some : goal.returns-in-Some
returns-in-Some c = c.remove.ensures.rest ∙ sym (without_at c.args.running.now c.in-Some.place c.args.action c.requires (rw c.as_slice.ensures at (c.in-Some.ensures {u = tt})))

pub returns-in_default : goal.returns-in_default
returns-in_default c = sym (nothing_lost c.args.action c.args.running.now (rw c.as_slice.ensures at (c.in_default.ensures {u = tt})))
