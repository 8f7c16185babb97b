-- Where a whole pass ends: at the last state, with all noted.
use Rattle.std.proofs.Common.{◌≡◌, refl, sym, ap, subst, ◌∙◌, ℕ, zero, suc, ◌-◌, ◌<◌, List, [], ◌∷◌, take, arith}
use Rattle.std.specs.Prelude.{None}
use Rattle.std.specs.List.{AllByRecursion}
use Rattle.exact_lin.specs.Reckoning.{wide_limit}
use Rattle.exact_lin.specs.Reckonings.{AllDefined, Sum}
use Rattle.task_types.specs.declared.parts.Rules.{Rules}
use Rattle.task_types.specs.declared.parts.TaskParts.{TaskParts}
use Rattle.task_types.specs.Plan.{Plan, Step, happenings}
use Rattle.task_types.specs.Course.{count, state, state_after}
use Rattle.task_types.specs.Reckoned.{whole_at}
use Rattle.task_types.proofs.Reasons.{Has, steps-happen}
use Rattle.timed_meaning.specs.declared.steps.OwnedStep.{OwnedStep}
use Rattle.timed_meaning.specs.Answers.{Defined}
use Rattle.timed_meaning.specs.Owned.{owned_steps, steps_of}
use Rattle.timed_meaning.specs.Agendas.{Left, AreListed}
use Rattle.timed_meaning.proofs.Left.{left-in}
use Rattle.timed_meaning.proofs.Listed.{steps-owned}
use Rattle.timed_meaning.proofs.Meeting.{met-all}
use Rattle.timed_meaning.proofs.Stepping.{first-state}
use Rattle.plan_validator.specs.declared.watching.Watch.{Watch}
use Rattle.plan_validator.specs.Firsts.{all_noted}
use Rattle.plan_validator.specs.Clashes.{SumsFit}
use Rattle.plan_validator.specs.Segments.{over_all_notes}
use Rattle.plan_validator.specs.Following.{AreFollowing}
use Rattle.plan_validator.specs.Watching.{steps_read, trace_to, IsWatching, HasVisited}
use Rattle.plan_validator.specs.Passing.{course_to, IsDone}
use Rattle.plan_validator.proofs.Courses.{defined-at}
use Rattle.task_types.proofs.Everyone.{all_map, all_of_map}
use Rattle.task_types.proofs.Unordered.{every_reordered}
use Rattle.plan_validator.proofs.Wholes.{late_out}

module _ (task : TaskParts) (rules : Rules) (plan : Plan) (w : Watch) where
  -- a plan without happenings has no steps
  no-steps : count task plan ≡ 0 → (xs : List OwnedStep) → Left task plan 0 (steps_of xs) → xs ≡ []
  no-steps z [] l = refl
  no-steps z (x ∷ xs) l = absurd (let h : 0 < count task plan = left-in task plan 0 x.step (steps_of xs) l in omega (arith, h, z))

  take-empty : (n : ℕ) (xs : List OwnedStep) → xs ≡ [] → take n xs ≡ xs
  take-empty zero xs e = sym e
  take-empty (suc n) [] e = refl
  take-empty (suc n) (x ∷ xs) e = cc

  pub done-none : IsWatching task rules plan w 0 → count task plan ≡ 0 → IsDone task rules plan w
  done-none b z = record {
    kept = b.before.kept;
    state = b.before.state ∙ sym (first-state task plan w.sweep.agenda.place b.place) ∙ ap (state task plan) (sym z);
    listed = b.before.at.listed;
    readings = b.readings ∙ ap (steps_read task rules plan) (take-empty w.sweep.agenda.first w.sweep.agenda.owned.items (no-steps z w.sweep.agenda.owned.items b.before.at.listed.left));
    over_alls = b.over_alls ∙ ap (λ n. all_noted None (over_all_notes task plan w.sweep.agenda.lines.items n)) (let e : 0 ≡ count task plan - 1 = omega (arith, z) in e);
    automata = subst (λ n. AreFollowing task.hard w.automata.items (trace_to task plan n)) (sym z) b.automata;
  }

  pub done-last : (last : ℕ) → HasVisited task rules plan w last → suc last ≡ count task plan → IsDone task rules plan w
  done-last last b e = record {
    kept = b.after.kept;
    state = b.after.state ∙ ap (λ k. state_after task plan k) b.place ∙ ap (state task plan) e;
    listed = b.after.at.listed;
    readings = b.readings ∙ ap (steps_read task rules plan) (met-all task plan w.sweep b.after.at (omega (arith, e, b.place)));
    over_alls = b.over_alls ∙ ap (λ n. all_noted None (over_all_notes task plan w.sweep.agenda.lines.items n)) (let d : last ≡ count task plan - 1 = omega (arith, e) in d);
    automata = subst (λ n. AreFollowing task.hard w.automata.items (trace_to task plan n)) e b.automata;
  }

  -- the times of all steps plus epsilon are defined
  pub sums-fit : AreListed task plan w.sweep.agenda.owned.items w.sweep.agenda.lines.items → AllDefined wide_limit (course_to task rules plan (count task plan)) → AllByRecursion (SumsFit rules) w.sweep.agenda.owned.items
  sums-fit l d = every_reordered (SumsFit rules) (owned_steps task plan) w.sweep.agenda.owned.items l.owned
      (all_map (λ o. Has o.step.time (happenings task plan)) (SumsFit rules) (owned_steps task plan) (λ o h. subst (λ t. Defined (Sum t rules.epsilon ∷ [])) h.2 (late_out task rules plan h.0 (defined-at (whole_at task rules plan) (count task plan) h.0 h.1 d)))
      (all_of_map (λ (s : Step). Has s.time (happenings task plan)) (λ o. o.step) (owned_steps task plan) (subst (AllByRecursion (λ (s : Step). Has s.time (happenings task plan))) (sym (steps-owned task plan)) (steps-happen task plan))))
