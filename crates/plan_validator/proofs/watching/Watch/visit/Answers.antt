use Rattle.std.proofs.Common.{◌≡◌, ◌∙◌, ℕ, suc, [], ◌∷◌, ◌++◌, ◌-◌, ◌^◌, ◌<◌, ◌≤◌, ap, sym, subst, length, take, append_assoc, arith}
use Rattle.std.specs.Prelude.{None}
use Rattle.task_types.specs.Trace.{Trace}
use Rattle.std.specs.List.{flat_map}
use Rattle.exact_lin.specs.Reckonings.{Sum, IsDefined}
use Rattle.exact_lin.specs.Reckoning.{wide_limit}
use Rattle.basics.proofs.Lists.{each_left}
use Rattle.basics.proofs.Bools.{and_left, and_right}
use Rattle.task_types.specs.Course.{count, time_of, steps_at, state_before}
use Rattle.task_types.specs.Reckoned.{read_reckoned, effects_at}
use Rattle.timed_meaning.specs.Answers.{Tells}
use Rattle.timed_meaning.specs.Sweeps.{steps_met, steps_here}
use Rattle.timed_meaning.specs.Agendas.{owned_here_of}
use Rattle.timed_meaning.proofs.Amounts.{part-fault, second-part}
use Rattle.timed_meaning.proofs.Listed.{few-happenings}
use Rattle.timed_meaning.proofs.Onward.{here-is, owned-here}
use Rattle.plan_validator.specs.declared.watching.Watch.{Watch}
use Rattle.plan_validator.specs.Following.{AreFollowing}
use Rattle.plan_validator.specs.Readings.{with_steps}
use Rattle.plan_validator.specs.Firsts.{all_noted}
use Rattle.plan_validator.specs.Segments.{over_all_notes}
use Rattle.plan_validator.specs.Watching.{steps_read, trace_to, HasVisited}
use Rattle.plan_validator.proofs.Followers.{follows-below, follows-taken}
use Rattle.plan_validator.proofs.Visiting.{here-read, trace-more, length-trace}
use Rattle.plan_validator.proofs.watching.Watch.visit.Goals as goal

pub read_here-requires : goal.read_here-requires
read_here-requires c = (c.requires.0, c.requires.2.before, subst (λ (j : ℕ). j < count c.args.task.now.parts c.requires.0) (sym c.requires.2.place) c.requires.4)

pub change_here-requires-clause-before : goal.change_here-requires-clause-before
change_here-requires-clause-before c = (c.requires.0, c.requires.2.before, subst (λ (j : ℕ). j < count c.args.task.now.parts c.requires.0) (sym c.requires.2.place) c.requires.4)

pub change_here-requires-clause-covered : goal.change_here-requires-clause-covered
change_here-requires-clause-covered c = follows-below c.args.task.now.parts c.args.self.now.sweep.standing.facts.items c.requires.2.before.kept.facts c.args.task.now.parts.hard c.args.self.now.automata.items (trace_to c.args.task.now.parts c.requires.0 c.requires.1) c.requires.2.automata
    (and_right _ _ (and_left _ _ c.args.task.now.well_made.terms))

pub change_here-requires-clause-room : goal.change_here-requires-clause-room
change_here-requires-clause-room c = follows-taken c.args.task.now.parts.hard c.args.self.now.automata.items (trace_to c.args.task.now.parts c.requires.0 c.requires.1) (2 ^ 32 - 1)
    (let n : length (trace_to c.args.task.now.parts c.requires.0 c.requires.1) ≡ suc c.requires.1 = length-trace c.args.task.now.parts c.args.rules.now c.requires.0 c.requires.1 in
    let f : count c.args.task.now.parts c.requires.0 ≤ 8256 = few-happenings c.args.task.now.parts c.requires.0 c.args.task.now.well_made c.requires.3 in
    omega (arith, n, f, c.requires.4)) c.requires.2.automata

pub returns-in-Ok : goal.returns-in-Ok
returns-in-Ok c = λ plan k b h.
    let there : c.args.self.now.sweep.agenda.place < count c.args.task.now.parts plan = subst (λ (j : ℕ). j < count c.args.task.now.parts plan) (sym b.place) h in
    let read = c.in-Ok.ensures plan k b.before b.place h in
    let steps_are = owned-here c.args.task.now.parts plan c.args.self.now.sweep.agenda b.before.at ∙ here-is c.args.task.now.parts plan c.args.self.now.sweep.agenda b.before.at there ∙ ap (λ j. steps_at c.args.task.now.parts plan (time_of c.args.task.now.parts plan j)) b.place in
    let watch : Watch = record { sweep = c.change_here.new.sweep; readings = c.read_here.new.readings; over_alls = c.args.self.now.over_alls; automata = c.change_here.new.automata } in
    subst (λ rs. Tells c.change_here.result rs (λ _. HasVisited c.args.task.now.parts c.args.rules.now plan watch k × (c.change_here.new.sweep.agenda ≡ c.args.self.now.sweep.agenda)))
    (sym (append_assoc (flat_map (read_reckoned c.args.task.now.parts (state_before c.args.task.now.parts plan k)) (steps_at c.args.task.now.parts plan (time_of c.args.task.now.parts plan k))) (effects_at c.args.task.now.parts plan k) (Sum (time_of c.args.task.now.parts plan k) c.args.rules.now.epsilon ∷ [])))
    (second-part c.change_here.result (flat_map (read_reckoned c.args.task.now.parts (state_before c.args.task.now.parts plan k)) (steps_at c.args.task.now.parts plan (time_of c.args.task.now.parts plan k))) (effects_at c.args.task.now.parts plan k ++ (Sum (time_of c.args.task.now.parts plan k) c.args.rules.now.epsilon ∷ [])) _ _ read.0
    (λ u q. (
      record {
        after = q.0;
        place = ap (λ a. a.place) q.1 ∙ b.place;
        readings = read.1 ∙ ap (λ n. with_steps c.args.task.now.parts c.args.rules.now (state_before c.args.task.now.parts plan k) n (steps_here c.args.self.now.sweep)) b.readings
            ∙ here-read c.args.task.now.parts c.args.rules.now plan k h (steps_met c.args.self.now.sweep) (steps_here c.args.self.now.sweep) steps_are
            ∙ ap (λ a. steps_read c.args.task.now.parts c.args.rules.now plan (take a.first a.owned.items ++ owned_here_of a)) (sym q.1);
        over_alls = b.over_alls ∙ ap (λ a. all_noted None (over_all_notes c.args.task.now.parts plan a.lines.items k)) (sym q.1);
        automata = subst (λ (xs : Trace). AreFollowing c.args.task.now.parts.hard c.change_here.new.automata.items xs) (trace-more c.args.task.now.parts c.args.rules.now plan k) (q.2 c.args.task.now.parts.hard (trace_to c.args.task.now.parts plan k) b.automata);
      },
      q.1,
    ))
    (c.change_here.ensures plan k b.before b.place h))

pub returns-in-Err : goal.returns-in-Err
returns-in-Err c = λ plan k b h. part-fault c.in-Err.fault _ _ _ _
    (λ d. each_left (IsDefined wide_limit) (flat_map (read_reckoned c.args.task.now.parts (state_before c.args.task.now.parts plan k)) (steps_at c.args.task.now.parts plan (time_of c.args.task.now.parts plan k))) (effects_at c.args.task.now.parts plan k)
    (each_left (IsDefined wide_limit) (flat_map (read_reckoned c.args.task.now.parts (state_before c.args.task.now.parts plan k)) (steps_at c.args.task.now.parts plan (time_of c.args.task.now.parts plan k)) ++ effects_at c.args.task.now.parts plan k) (Sum (time_of c.args.task.now.parts plan k) c.args.rules.now.epsilon ∷ []) d))
    (c.in-Err.ensures plan k b.before b.place h)
