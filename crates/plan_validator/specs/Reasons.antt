-- Private: the reasons of the places of duties.
use Rattle.std.specs.Prelude.{ℕ, suc, ◌-◌, nat_le, if◌then◌else◌, List, length, slice_index_or, Option, None}
use Rattle.std.specs.Option.{option_map}
use Rattle.rational.specs.Rational.{ℚ, zeroℚ}
use Rattle.task_types.specs.declared.plans.PlanLine.{PlanLine}
use Rattle.task_types.specs.declared.plans.Reason.{Reason}
use Rattle.task_types.specs.declared.plans.Reason.TheVariants as reason
use Rattle.task_types.specs.Plan.{Plan}
use Rattle.plan_validator.specs.declared.watching.Watch.{Watch}
use Rattle.plan_validator.specs.Firsts.{Place}
use Rattle.plan_validator.specs.Judged.{first_of}

-- what stands for a line past the last one, of which no reason speaks
abbrev pub no_line : PlanLine
no_line = record { action = 0; at = zeroℚ; duration = None; line = 0 }

abbrev pub number_at : Plan → ℕ → ℕ
number_at lines i = (slice_index_or lines i no_line).line

abbrev pub duration_at : Plan → Place → Reason
duration_at lines p = reason.Duration (number_at lines p.0)

abbrev pub start_at : Plan → Place → Reason
start_at lines p = reason.Start (number_at lines p.0)

abbrev pub end_at : Plan → Place → Reason
end_at lines p = reason.End (number_at lines p.0)

abbrev pub clash_at : Plan → List (ℚ × ℕ) → Place → Reason
clash_at lines timed p = if nat_le (length lines) p.1 then reason.ClashTimed (number_at lines p.0) (slice_index_or timed (p.1 - length lines) (zeroℚ, 0)).0 else reason.Clash (number_at lines p.0) (number_at lines p.1)

abbrev pub over_all_at : Plan → List ℚ → Place → Reason
over_all_at lines times p = reason.OverAll (number_at lines p.0) (slice_index_or times p.1 zeroℚ) (slice_index_or times (suc p.1) zeroℚ)

-- the first reason of what a pass has noted, behind those of lines that aren't in time
abbrev pub noted_reason : Watch → Option Reason → Option Place → Plan → List (ℚ × ℕ) → List ℚ → Option Reason
noted_reason w late clash lines timed times =
    let before_starts = first_of (first_of late (option_map (duration_at lines) w.readings.durations.place)) (option_map (clash_at lines timed) clash) in
    first_of (first_of (first_of before_starts (option_map (start_at lines) w.readings.starts.place)) (option_map (end_at lines) w.readings.ends.place)) (option_map (over_all_at lines times) w.over_alls.place)
