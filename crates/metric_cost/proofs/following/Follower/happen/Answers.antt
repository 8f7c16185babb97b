use Rattle.std.proofs.Common.{ℕ, ◌<◌, ◌∙◌, ap, sym, subst, arith}
use Rattle.task_types.specs.Course.{count, time_of, state_after}
use Rattle.task_types.specs.Reckoned.{effects_at}
use Rattle.timed_meaning.specs.declared.agendas.Agenda.{Agenda}
use Rattle.timed_meaning.specs.Answers.{Facts, Defined}
use Rattle.metric_cost.specs.Following.{trace_before}
use Rattle.metric_cost.proofs.Going.{trace-length, seen-next}
use Rattle.metric_cost.proofs.following.Follower.happen.Goals as goal

pub time-time-requires : goal.time-time-requires
time-time-requires c =
    let there : c.args.self.now.sweep.agenda.place < count c.args.task.now.parts c.requires.0 = omega (arith, c.requires.2.place, c.requires.3) in
    let after = c.in-Ok.ensures c.requires.0 c.requires.2.sweep there in
    (c.args.task.now.parts, c.requires.0, after.1.0.at, subst (λ (a : Agenda). a.place < count c.args.task.now.parts c.requires.0) (sym after.1.1) there)

pub step-requires-clause-seen : goal.step-requires-clause-seen
step-requires-clause-seen c = (trace_before c.args.task.now.parts c.requires.0 c.requires.1, c.requires.2.seen, omega (arith, trace-length c.args.task.now.parts c.requires.0 c.requires.1, c.requires.3, c.requires.4))

pub returns-in-Ok : goal.returns-in-Ok
returns-in-Ok c plan k b lt =
    let there : c.args.self.now.sweep.agenda.place < count c.args.task.now.parts plan = omega (arith, b.place, lt) in
    let after = c.in-Ok.ensures plan b.sweep there in
    let place = ap (λ (a : Agenda). a.place) after.1.1 ∙ b.place in (
      subst (λ (i : ℕ). Defined (effects_at c.args.task.now.parts plan i)) b.place after.0,
      record {
        sweep = after.1.0;
        place = place;
        seen = seen-next c.args.task.now.parts plan c.step.new.self k c.facts.result.now c.time-time.result
            (c.time-time.ensures c.args.task.now.parts plan after.1.0.at (subst (λ (a : Agenda). a.place < count c.args.task.now.parts plan) (sym after.1.1) there) ∙ ap (time_of c.args.task.now.parts plan) place)
            (subst (λ (i : ℕ). Facts c.args.task.now.parts c.facts.result.now (state_after c.args.task.now.parts plan i)) place (c.facts.ensures.after c.args.task.now.parts plan after.1.0))
            (c.step.ensures (trace_before c.args.task.now.parts plan k) b.seen);
      },
    )
