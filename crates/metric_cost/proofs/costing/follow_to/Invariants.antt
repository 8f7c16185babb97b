use Rattle.exact_lin.specs.Reckoning.{wide_limit}
use Rattle.exact_lin.specs.Reckonings.{AllDefined}
use Rattle.task_types.specs.Reckoned.{course_before}
use Rattle.metric_cost.specs.Following.{StandsBefore}
use Rattle.metric_cost.proofs.costing.follow_to.Given as goal

abbrev pub invariant-loop-j : goal.invariant-loop-j
invariant-loop-j l = AllDefined wide_limit (course_before l.task.parts l.plan l.j) × StandsBefore l.task.parts l.plan l.follower l.j
