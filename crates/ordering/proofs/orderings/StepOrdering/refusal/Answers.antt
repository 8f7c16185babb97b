use Rattle.std.proofs.Common.{◌∙◌, sym}
use Rattle.ordering.proofs.MoreSteps.{refused_by_limit, refused_by_kind}
use Rattle.ordering.proofs.orderings.StepOrdering.refusal.Goals as goal

pub returns-then-is_full : goal.returns-then-is_full
returns-then-is_full c = sym (refused_by_limit c.args.task.now.parts c.args.self.now c.args.snap c.requires.over.plan_steps (rw c.snap_at-step.ensures at (sym c.is_full.ensures ∙ c.if-is_full.true)))

pub returns : goal.returns
returns c = rw c.snap_at-step.ensures at c.kind_refusal.ensures ∙ sym (refused_by_kind c.args.task.now.parts c.args.self.now c.args.snap c.requires.over.plan_steps (rw c.snap_at-step.ensures at (sym c.is_full.ensures ∙ c.if-is_full.false)))
