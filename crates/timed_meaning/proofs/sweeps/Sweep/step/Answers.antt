use Rattle.std.proofs.Common.{◌≡◌, ℕ, ◌<◌, suc, sym, ap, subst, arith}
use Rattle.exact_lin.specs.Reckoning.{wide_limit}
use Rattle.exact_lin.specs.Reckonings.{IsDefined}
use Rattle.basics.proofs.Lists.{each_left}
use Rattle.task_types.specs.Course.{count}
use Rattle.task_types.specs.Reckoned.{effects_at, move_at}
use Rattle.timed_meaning.specs.Answers.{Tells}
use Rattle.timed_meaning.specs.Sweeps.{IsBefore, GoesOn}
use Rattle.timed_meaning.proofs.Meeting.{goes-on-from}
use Rattle.timed_meaning.proofs.Amounts.{part-fault, second-part}
use Rattle.timed_meaning.proofs.sweeps.Sweep.step.Goals as goal

pub returns-in-Ok : goal.returns-in-Ok
returns-in-Ok c = λ plan b h.
    let applied = c.in-Ok.ensures plan b (omega (arith, h)) in
    let here : c.apply.new.self.agenda.place ≡ c.args.self.now.agenda.place = ap (λ a. a.place) applied.1.1 in
    second-part c.advance.result (effects_at c.args.task.now.parts plan c.args.self.now.agenda.place) (move_at c.args.task.now.parts plan c.args.self.now.agenda.place) _ _ applied.0 (λ u p. (p.0, p.1, goes-on-from c.args.self.now c.apply.new.self c.advance.new.self applied.1.1 p.2))
    (subst (λ (j : ℕ). Tells c.advance.result (move_at c.args.task.now.parts plan j) (λ _. IsBefore c.args.task.now.parts plan c.advance.new.self × (c.advance.new.self.agenda.place ≡ suc j) × GoesOn c.apply.new.self c.advance.new.self)) here
    (c.advance.ensures plan applied.1.0 (subst (λ (j : ℕ). suc j < count c.args.task.now.parts plan) (sym here) h)))

pub returns-in-Err : goal.returns-in-Err
returns-in-Err c = λ plan b h. part-fault c.in-Err.fault _ _ _ _
    (λ d. each_left (IsDefined wide_limit) (effects_at c.args.task.now.parts plan c.args.self.now.agenda.place) (move_at c.args.task.now.parts plan c.args.self.now.agenda.place) d)
    (c.in-Err.ensures plan b (omega (arith, h)))
