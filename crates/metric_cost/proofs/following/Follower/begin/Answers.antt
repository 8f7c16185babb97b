use Rattle.std.proofs.Common.{[], subst, ℕ}
use Rattle.task_types.specs.Course.{state_before}
use Rattle.timed_meaning.specs.Answers.{Facts}
use Rattle.metric_cost.proofs.Going.{seen-first}
use Rattle.metric_cost.proofs.following.Follower.begin.Goals as goal

pub returns : goal.returns
returns c = record {
  sweep = c.in_ok-sweep.ensures.0;
  place = c.in_ok-sweep.ensures.1;
  seen = seen-first c.args.task.now.parts c.args.plan.now c.step.new.self c.facts.result.now c.of_int.result c.of_int.ensures
      (subst (λ (i : ℕ). Facts c.args.task.now.parts c.facts.result.now (state_before c.args.task.now.parts c.args.plan.now i)) c.in_ok-sweep.ensures.1 (c.facts.ensures.before c.args.task.now.parts c.args.plan.now c.in_ok-sweep.ensures.0))
      (c.step.ensures [] c.in_ok-watchers.ensures);
}
