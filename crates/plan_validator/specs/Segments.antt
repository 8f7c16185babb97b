-- Private: what is noted of over-all conditions at both ends of each segment, of the lines that run there.
use Rattle.std.specs.Prelude.{ℕ, suc, List, ◌++◌, map}
use Rattle.std.specs.List.{filter, flat_map}
use Rattle.task_types.specs.declared.conditions.Condition.{Condition}
use Rattle.task_types.specs.declared.parts.TaskParts.{TaskParts}
use Rattle.task_types.specs.Sets.{numbers}
use Rattle.task_types.specs.State.{State, holds}
use Rattle.task_types.specs.Plan.{Plan, action_of}
use Rattle.task_types.specs.Course.{time_of, state_after, state_before, runs_between}
use Rattle.timed_meaning.specs.declared.placing.PlacedLine.{PlacedLine}
use Rattle.exact_lin.specs.Reckonings.{Reckoning}
use Rattle.plan_validator.specs.Firsts.{Note}
use Rattle.plan_validator.specs.Readings.{one_value}

abbrev pub over_all_of : TaskParts → PlacedLine → Condition
over_all_of task p = (action_of task p.line.action).over_all

-- the values that it reads in a state
abbrev pub over_all_values : TaskParts → State → PlacedLine → List Reckoning
over_all_values task s p = flat_map (one_value s) (over_all_of task p).comparisons

-- what is noted of a running line in a state at an end of segment k
abbrev pub over_all_note : TaskParts → ℕ → State → PlacedLine → Note
over_all_note task k s p = ((p.place, k), holds (over_all_of task p) s)

-- the lines, of those given, that run over segment k
abbrev pub running_over : TaskParts → Plan → List PlacedLine → ℕ → List PlacedLine
running_over task plan lines k = filter (λ p. runs_between (time_of task plan k) (time_of task plan (suc k)) p.line) lines

abbrev pub segment_notes : TaskParts → Plan → List PlacedLine → ℕ → List Note
segment_notes task plan lines k = map (over_all_note task k (state_after task plan k)) (running_over task plan lines k)
    ++ map (over_all_note task k (state_before task plan (suc k))) (running_over task plan lines k)

-- what is noted over the first segments
abbrev pub over_all_notes : TaskParts → Plan → List PlacedLine → ℕ → List Note
over_all_notes task plan lines n = flat_map (segment_notes task plan lines) (numbers n)
