use Rattle.std.proofs.Common.{◌∙◌, ap, sym}
use Rattle.trajectory.specs.Laws.{tells_met}
use Rattle.trajectory.specs.Verdicts.{verdict_on}
use Rattle.trajectory.proofs.Verdicts.{verdict_tells}
use Rattle.plan_validator.specs.Following.{is_soon}
use Rattle.plan_validator.proofs.Meeting.{soon-at}
use Rattle.plan_validator.proofs.constraints.is_met.Goals as goal

pub returns-in-Met : goal.returns-in-Met
returns-in-Met c = λ states f t n. sym (verdict_tells c.args.trail.now states n ∙ ap (tells_met c.args.trail.now states) (sym (c.in-Met.ensures states f.follows ∙ ap (λ d. verdict_on d states) f.constraint)))

pub returns-in-Broken : goal.returns-in-Broken
returns-in-Broken c = λ states f t n. sym (verdict_tells c.args.trail.now states n ∙ ap (tells_met c.args.trail.now states) (sym (c.in-Broken.ensures states f.follows ∙ ap (λ d. verdict_on d states) f.constraint)))

pub returns-in-Timed : goal.returns-in-Timed
returns-in-Timed c = λ states f t n. c.is_soon.ensures ∙ ap (λ ts. is_soon c.args.trail.now.moment ts c.in-Timed.state) (sym t) ∙ sym (soon-at c.args.trail.now.moment states c.in-Timed.state)
    ∙ sym (verdict_tells c.args.trail.now states n ∙ ap (tells_met c.args.trail.now states) (sym (c.in-Timed.ensures states f.follows ∙ ap (λ d. verdict_on d states) f.constraint)))
