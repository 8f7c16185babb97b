-- Private: the duties of a plan kind by kind, in the order in which reasons count.
use Rattle.std.specs.Prelude.{ℕ, List, map}
use Rattle.std.specs.List.{enumerate_from}
use Rattle.basics.specs.Duties.{Duty, duty}
use Rattle.task_types.specs.declared.constraints.Trail.{Trail}
use Rattle.task_types.specs.declared.parts.Rules.{Rules}
use Rattle.task_types.specs.declared.plans.Reason.{Reason}
use Rattle.task_types.specs.declared.plans.Reason.TheVariants as reason
use Rattle.task_types.specs.Plan.{Plan}
use Rattle.task_types.specs.Trace.{Trace, met}
use Rattle.task_types.specs.Valid.{is_in_time}

abbrev pub time_duties : Rules → Plan → List (Duty Reason)
time_duties rules plan = map (λ l. duty (reason.Time l.line) (is_in_time rules l)) plan

abbrev pub constraint_duty : Trace → ℕ × Trail → Duty Reason
constraint_duty states c = duty (reason.Constraint c.0) (met c.1 states)

-- the constraints, numbered from n on
abbrev pub constraint_duties : Trace → ℕ → List Trail → List (Duty Reason)
constraint_duties states n hard = map (constraint_duty states) (enumerate_from n hard)
