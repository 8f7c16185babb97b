use Rattle.std.proofs.Common.{◌∙◌}
use Rattle.ordering.proofs.MoreSteps.{timed_refusal}
use Rattle.ordering.proofs.orderings.StepOrdering.kind_refusal.Goals as goal

pub returns-in-Timed : goal.returns-in-Timed
returns-in-Timed c = c.refused_if-in-Timed.ensures ∙ timed_refusal c.args.step.now.kind c.is_moment-is_next.result c.args.task.now.parts c.args.self.now.steps c.args.snap c.in-Timed.is (rw (c.timed.ensures, c.requires.over.timed_steps) at c.is_moment-is_next.ensures)
