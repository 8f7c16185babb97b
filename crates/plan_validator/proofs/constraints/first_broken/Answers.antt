use Rattle.std.proofs.Common.{◌∙◌, ◌+◌, List, sym, subst, drop}
use Rattle.basics.specs.Duties.{Duty}
use Rattle.basics.proofs.Duties.{ComesDownTo, ComesDownTo-next}
use Rattle.task_types.specs.declared.plans.Reason.{Reason}
use Rattle.plan_validator.specs.Kinds.{constraint_duties, constraint_duty}
use Rattle.plan_validator.proofs.Meeting.{constraints-onward}
use Rattle.plan_validator.proofs.constraints.first_broken.Goals as goal

pub loop-i-preserved : goal.loop-i-preserved
loop-i-preserved c = λ states f t n.
    let met_is = c.is_met_at.ensures c.args.hard.now states f c.loop-i-test.true c.index-hard-i.is t n in
    ComesDownTo-next (constraint_duties states 1 c.args.hard.now) (constraint_duty states (1 + c.loop-i.i, c.index-hard-i.result)) (constraint_duties states (1 + (c.loop-i.i + 1)) (drop (c.loop-i.i + 1) c.args.hard.now))
    (subst (λ (ds : List (Duty Reason)). ComesDownTo (constraint_duties states 1 c.args.hard.now) ds) (constraints-onward states c.args.hard.now c.loop-i.i c.index-hard-i.result c.loop-i-test.true c.index-hard-i.is) (c.loop-i.invariant states f t n))
    (sym met_is ∙ c.if-not-is_met_at.false)
