-- Each kind of duties is judged by what a whole pass has noted.
use Rattle.std.proofs.Common.{◌≡◌, refl, sym, ap, subst, ℕ, ◌+◌, ◌-◌, ◌<◌, Bool, true, List, [], ◌∷◌, length, map, arith}
use Rattle.std.specs.Prelude.{Option, None, slice_index_or}
use Rattle.std.specs.List.{AllByRecursion, list_all}
use Rattle.std.specs.Option.{option_map}
use Rattle.rational.specs.Rational.{ℚ}
use Rattle.basics.specs.Duties.{duty}
use Rattle.basics.proofs.Bools.{and_left, and_right}
use Rattle.basics.proofs.Naturals.{lt_out}
use Rattle.task_types.specs.declared.parts.Rules.{Rules}
use Rattle.task_types.specs.declared.parts.TaskParts.{TaskParts}
use Rattle.task_types.specs.declared.plans.PlanLine.{PlanLine}
use Rattle.task_types.specs.declared.plans.Reason.{Reason}
use Rattle.task_types.specs.declared.plans.Reason.TheVariants as reason
use Rattle.task_types.specs.Plan.{Plan, Step, is_formed, line_steps, happenings}
use Rattle.task_types.specs.Course.{count}
use Rattle.task_types.specs.Valid.{has_fit_duration, can_start, can_end, clash_duties, over_alls}
use Rattle.task_types.specs.WellMade.{IsWellMade}
use Rattle.timed_meaning.specs.TimedPlans.{IsBuiltFor}
use Rattle.timed_meaning.specs.Told.{timed_step}
use Rattle.plan_validator.specs.declared.watching.Watch.{Watch}
use Rattle.plan_validator.specs.Firsts.{Place, all_noted}
use Rattle.plan_validator.specs.Judged.{Judged}
use Rattle.plan_validator.specs.Clashes.{clash_notes}
use Rattle.plan_validator.specs.Segments.{over_all_notes}
use Rattle.plan_validator.specs.Ends.{all_over_all_tests}
use Rattle.plan_validator.specs.Watching.{fits_test, start_test, end_test, step_note}
use Rattle.plan_validator.specs.Passing.{IsDone}
use Rattle.plan_validator.specs.Reasons.{no_line, duration_at, start_at, end_at, clash_at, over_all_at}
use Rattle.plan_validator.proofs.Noting.{Says, least-says}
use Rattle.plan_validator.proofs.Judgement.{Judged-noted, Judged-alike}
use Rattle.plan_validator.proofs.Ending.{over_alls-alike}
use Rattle.plan_validator.proofs.Owners.{line_items, lines-ascend, duties-lines, lines-named, steps-agree}
use Rattle.plan_validator.proofs.Segments.{span_items, spans-ascend, span_reason, span_test, duties-spans, spans-named, spans-agree}
use Rattle.plan_validator.proofs.Pairs.{meetings, meetings-ascend, meeting_reason, meeting_test, duties-meetings, meetings-named, clashes-agree}
use Rattle.plan_validator.proofs.Snaps.{HasSnaps, has-snaps}
use Rattle.plan_validator.proofs.Lines.{by-steps, durations-by_steps, starts-by_steps, ends-by_steps}
use Rattle.plan_validator.proofs.Timed.{timed-fit, timed-start, timed-end}

-- a least place is that of the notes where it is one of equal notes
says-of : (o : Option Place) (notes : List (Place × Bool)) → o ≡ all_noted None notes → Says None notes o
says-of o notes e = subst (Says None notes) (sym e) (least-says None notes)

same_place : (plan : Plan) (i : ℕ) → i < length plan → slice_index_or plan i no_line ≡ slice_index_or plan (0 + i) no_line
same_place plan i h = ap (λ k. slice_index_or plan k no_line) (let e : i ≡ 0 + i = omega arith in e)

module _ (task : TaskParts) (rules : Rules) (plan : Plan) (w : Watch) (well : IsWellMade task) (built : IsBuiltFor task plan) (done : IsDone task rules plan w) where
  LineKnown : PlanLine → Type 0
  LineKnown l = HasSnaps task l.action × (is_formed task l ≡ true)

  lines-known : (ls : Plan) → list_all (is_formed task) ls ≡ true → AllByRecursion LineKnown ls
  unfolding LineKnown
  lines-known [] h = tt
  lines-known (l ∷ ls) h = ((has-snaps task well l.action (lt_out l.action (length task.actions) (and_left _ _ (and_left _ _ h))), and_left _ _ h), lines-known ls (and_right _ _ h))

  -- a kind of duty of each line that its steps pass together
  of-lines : (reason : PlanLine → Reason) (test : PlanLine → Bool) (step_test : Step → Bool) (named : Place → Reason) → ((m : Place) → reason (slice_index_or plan m.0 no_line) ≡ named m)
      → ((l : PlanLine) → LineKnown l → test l ≡ list_all step_test (line_steps task l)) → AllByRecursion (λ t. step_test (timed_step t) ≡ true) task.timed
      → (o : Option Place) → o ≡ all_noted None (map (step_note step_test) w.sweep.agenda.owned.items) → Judged (map (λ l. duty (reason l) (test l)) plan) (option_map named o)
  of-lines reason test step_test named n goes timed o e = subst (λ ds. Judged ds (option_map named o)) (duties-lines reason test 0 plan)
      (Judged-noted reason test (line_items 0 plan) (lines-ascend 0 plan) (map (step_note step_test) w.sweep.agenda.owned.items)
      (steps-agree task plan step_test test LineKnown (lines-known plan built.formed) (λ l k A. by-steps step_test (line_steps task l) (test l) (goes l k) A) timed w.sweep.agenda.owned.items done.listed.owned)
      named (λ m. subst (λ r. AllByRecursion (λ i. i.place ≡ m → reason i.item ≡ r) (line_items 0 plan)) (n m) (lines-named reason no_line 0 plan plan (same_place plan) m)) o (says-of o (map (step_note step_test) w.sweep.agenda.owned.items) e))

  pub judged-durations : Judged (map (λ l. duty (reason.Duration l.line) (has_fit_duration task rules plan l)) plan) (option_map (duration_at plan) w.readings.durations.place)
  unfolding LineKnown
  judged-durations = of-lines (λ l. reason.Duration l.line) (has_fit_duration task rules plan) (fits_test task rules plan) (duration_at plan) (λ m. refl) (λ l k. durations-by_steps task rules plan l k.0 k.1) (timed-fit task well rules plan)
      w.readings.durations.place (ap (λ r. r.durations.place) done.readings)

  pub judged-starts : Judged (map (λ l. duty (reason.Start l.line) (can_start task plan l)) plan) (option_map (start_at plan) w.readings.starts.place)
  unfolding LineKnown
  judged-starts = of-lines (λ l. reason.Start l.line) (can_start task plan) (start_test task plan) (start_at plan) (λ m. refl) (λ l k. starts-by_steps task rules plan l k.0) (timed-start task well rules plan)
      w.readings.starts.place (ap (λ r. r.starts.place) done.readings)

  pub judged-ends : Judged (map (λ l. duty (reason.End l.line) (can_end task plan l)) plan) (option_map (end_at plan) w.readings.ends.place)
  unfolding LineKnown
  judged-ends = of-lines (λ l. reason.End l.line) (can_end task plan) (end_test task plan) (end_at plan) (λ m. refl) (λ l k. ends-by_steps task rules plan l k.0) (timed-end task well rules plan)
      w.readings.ends.place (ap (λ r. r.ends.place) done.readings)

  pub judged-over_alls : (times : List ℚ) → times ≡ happenings task plan → Judged (over_alls task plan plan) (option_map (over_all_at plan times) w.over_alls.place)
  judged-over_alls times t = Judged-alike (over_alls task plan plan) (all_over_all_tests task plan plan) (option_map (over_all_at plan times) w.over_alls.place) (over_alls-alike task plan built.formed plan)
      (subst (λ ds. Judged ds (option_map (over_all_at plan times) w.over_alls.place)) (duties-spans task plan 0 plan)
      (Judged-noted (span_reason task plan) (span_test task plan) (span_items (count task plan - 1) 0 plan) (spans-ascend (count task plan - 1) 0 plan) (over_all_notes task plan w.sweep.agenda.lines.items (count task plan - 1))
      (spans-agree task plan w.sweep.agenda.lines.items done.listed.placed (count task plan - 1)) (over_all_at plan times)
      (λ m. subst (λ ts. AllByRecursion (λ e. e.place ≡ m → span_reason task plan e.item ≡ over_all_at plan ts m) (span_items (count task plan - 1) 0 plan)) (sym t) (spans-named task plan no_line (count task plan - 1) 0 plan plan (same_place plan) m))
      w.over_alls.place (says-of w.over_alls.place (over_all_notes task plan w.sweep.agenda.lines.items (count task plan - 1)) done.over_alls)))

  pub judged-clashes : (o : Option Place) → o ≡ all_noted None (clash_notes task rules (length plan) w.sweep.agenda.owned.items) → Judged (clash_duties task rules plan) (option_map (clash_at plan task.timed) o)
  judged-clashes o e = subst (λ ds. Judged ds (option_map (clash_at plan task.timed) o)) (duties-meetings task rules (length plan) 0 plan)
      (Judged-noted (meeting_reason task rules (length plan)) (meeting_test task rules (length plan)) (meetings task rules (length plan) 0 plan) (meetings-ascend task rules (length plan) 0 plan (omega arith)) (clash_notes task rules (length plan) w.sweep.agenda.owned.items)
      (clashes-agree task rules plan w.sweep.agenda.owned.items done.listed.owned done.listed.falls) (clash_at plan task.timed)
      (λ m. meetings-named task rules (length plan) plan no_line m 0 plan (omega arith) (same_place plan)) o (says-of o (clash_notes task rules (length plan) w.sweep.agenda.owned.items) e))
