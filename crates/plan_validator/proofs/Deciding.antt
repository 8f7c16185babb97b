-- The first reason of all kinds, from those of each kind.
use Rattle.std.proofs.Common.{◌≡◌, refl, Bool, true, false, List, [], ◌∷◌, ◌++◌, length, map, inl}
use Rattle.std.specs.Prelude.{Option, None}
use Rattle.std.specs.Option.{option_map}
use Rattle.rational.specs.Rational.{ℚ}
use Rattle.basics.specs.Duties.{Duty, duty, AllMet}
use Rattle.basics.proofs.Duties.{AllMet-left}
use Rattle.task_types.specs.declared.parts.Rules.{Rules}
use Rattle.task_types.specs.declared.parts.TaskParts.{TaskParts}
use Rattle.task_types.specs.declared.plans.Reason.{Reason}
use Rattle.task_types.specs.declared.plans.Reason.TheVariants as reason
use Rattle.task_types.specs.Plan.{Plan, happenings}
use Rattle.task_types.specs.Course.{last_state}
use Rattle.task_types.specs.State.{holds}
use Rattle.task_types.specs.Trace.{trace}
use Rattle.task_types.specs.Valid.{has_fit_duration, can_start, can_end, clash_duties, over_alls, duties}
use Rattle.task_types.specs.WellMade.{IsWellMade}
use Rattle.timed_meaning.specs.TimedPlans.{IsBuiltFor}
use Rattle.plan_validator.specs.declared.watching.Watch.{Watch}
use Rattle.plan_validator.specs.Firsts.{Place, all_noted}
use Rattle.plan_validator.specs.Judged.{Judged, first_of}
use Rattle.plan_validator.specs.Clashes.{clash_notes}
use Rattle.plan_validator.specs.Kinds.{time_duties, constraint_duties}
use Rattle.plan_validator.specs.Passing.{IsDone, goal_reason}
use Rattle.plan_validator.specs.Reasons.{duration_at, start_at, end_at, clash_at, over_all_at, noted_reason}
use Rattle.plan_validator.proofs.Judgement.{Judged-both}
use Rattle.plan_validator.proofs.ByKind.{judged-durations, judged-clashes, judged-starts, judged-ends, judged-over_alls}

judged-goal : (b : Bool) → Judged (duty reason.Goal b ∷ []) (goal_reason b)
judged-goal true = (refl, tt)
judged-goal false = inl ((λ t. cc), refl)

module _ (task : TaskParts) (rules : Rules) (plan : Plan) (w : Watch) (well : IsWellMade task) (built : IsBuiltFor task plan) (done : IsDone task rules plan w) where
  abbrev first_kind : List (Duty Reason)
  first_kind = time_duties rules plan

  abbrev durations : List (Duty Reason)
  durations = map (λ l. duty (reason.Duration l.line) (has_fit_duration task rules plan l)) plan

  abbrev starts : List (Duty Reason)
  starts = map (λ l. duty (reason.Start l.line) (can_start task plan l)) plan

  abbrev ends : List (Duty Reason)
  ends = map (λ l. duty (reason.End l.line) (can_end task plan l)) plan

  abbrev goals : List (Duty Reason)
  goals = duty reason.Goal (holds task.goal (last_state task plan)) ∷ []

  pub all-judged : (late : Option Reason) (clash : Option Place) (times : List ℚ) (broken : Option Reason) → Judged (time_duties rules plan) late → clash ≡ all_noted None (clash_notes task rules (length plan) w.sweep.agenda.owned.items) → times ≡ happenings task plan
      → (AllMet (time_duties rules plan) → Judged (constraint_duties (trace task plan) 1 task.hard) broken)
      → Judged (duties task rules plan) (first_of (first_of (noted_reason w late clash plan task.timed times) (goal_reason (holds task.goal (last_state task plan)))) broken)
  unfolding duties
  all-judged late clash times broken j1 e t j8 =
      Judged-both (first_kind ++ durations ++ clash_duties task rules plan ++ starts ++ ends ++ over_alls task plan plan ++ goals) (constraint_duties (trace task plan) 1 task.hard) _ broken
      (Judged-both (first_kind ++ durations ++ clash_duties task rules plan ++ starts ++ ends ++ over_alls task plan plan) goals _ (goal_reason (holds task.goal (last_state task plan)))
      (Judged-both (first_kind ++ durations ++ clash_duties task rules plan ++ starts ++ ends) (over_alls task plan plan) _ (option_map (over_all_at plan times) w.over_alls.place)
      (Judged-both (first_kind ++ durations ++ clash_duties task rules plan ++ starts) ends _ (option_map (end_at plan) w.readings.ends.place)
      (Judged-both (first_kind ++ durations ++ clash_duties task rules plan) starts _ (option_map (start_at plan) w.readings.starts.place)
      (Judged-both (first_kind ++ durations) (clash_duties task rules plan) _ (option_map (clash_at plan task.timed) clash)
      (Judged-both first_kind durations late (option_map (duration_at plan) w.readings.durations.place) j1
      (λ m. judged-durations task rules plan w well built done)) (λ m. judged-clashes task rules plan w well built done clash e)) (λ m. judged-starts task rules plan w well built done)) (λ m. judged-ends task rules plan w well built done))
      (λ m. judged-over_alls task rules plan w well built done times t)) (λ m. judged-goal (holds task.goal (last_state task plan))))
      (λ m. j8 (AllMet-left first_kind durations (AllMet-left (first_kind ++ durations) (clash_duties task rules plan) (AllMet-left (first_kind ++ durations ++ clash_duties task rules plan) starts
      (AllMet-left (first_kind ++ durations ++ clash_duties task rules plan ++ starts) ends (AllMet-left (first_kind ++ durations ++ clash_duties task rules plan ++ starts ++ ends) (over_alls task plan plan)
      (AllMet-left (first_kind ++ durations ++ clash_duties task rules plan ++ starts ++ ends ++ over_alls task plan plan) goals m)))))))
