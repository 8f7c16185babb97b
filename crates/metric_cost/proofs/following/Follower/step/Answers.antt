use Rattle.std.proofs.Common.{◌≡◌, ℕ, suc, ◌<◌, ◌∙◌, ap, subst, arith}
use Rattle.basics.proofs.Lists.{each_left}
use Rattle.exact_lin.specs.Reckoning.{wide_limit}
use Rattle.exact_lin.specs.Reckonings.{IsDefined}
use Rattle.task_types.specs.Course.{count}
use Rattle.task_types.specs.Reckoned.{effects_at, move_at}
use Rattle.timed_meaning.specs.Answers.{Tells}
use Rattle.timed_meaning.specs.Sweeps.{IsBefore, GoesOn}
use Rattle.timed_meaning.proofs.Amounts.{second-part, part-fault}
use Rattle.metric_cost.proofs.following.Follower.step.Goals as goal

pub returns-in-Ok : goal.returns-in-Ok
returns-in-Ok c plan k b lt =
    let there : k < count c.args.task.now.parts plan = omega (arith, lt) in
    let after = c.in-Ok.ensures plan k b there in
    let more : suc c.happen.new.self.sweep.agenda.place < count c.args.task.now.parts plan = omega (arith, after.1.place, lt) in
    second-part c.advance.result (effects_at c.args.task.now.parts plan k) (move_at c.args.task.now.parts plan k) _ _ after.0
    (λ u p. record { sweep = p.0; place = p.1 ∙ ap suc after.1.place; seen = after.1.seen })
    (subst (λ (i : ℕ). Tells c.advance.result (move_at c.args.task.now.parts plan i) (λ _. IsBefore c.args.task.now.parts plan c.advance.new.self × (c.advance.new.self.agenda.place ≡ suc c.happen.new.self.sweep.agenda.place) × GoesOn c.happen.new.self.sweep c.advance.new.self)) after.1.place
    (c.advance.ensures plan after.1.sweep more))

pub returns-in-Err : goal.returns-in-Err
returns-in-Err c plan k b lt =
    let there : k < count c.args.task.now.parts plan = omega (arith, lt) in
    part-fault c.in-Err.fault (effects_at c.args.task.now.parts plan k) _ _ _
    (λ d. each_left (IsDefined wide_limit) (effects_at c.args.task.now.parts plan k) (move_at c.args.task.now.parts plan k) d) (c.in-Err.ensures plan k b there)
