-- Believed: the steps of a plan with the lines that they belong to, and lines with their places.
use Rattle.std.specs.Prelude.{ℕ, ◌+◌, List, ◌++◌, map, length}
use Rattle.std.specs.List.{flat_map, enumerate_from}
use Rattle.rational.specs.Rational.{ℚ}
use Rattle.task_types.specs.declared.parts.TaskParts.{TaskParts}
use Rattle.task_types.specs.declared.plans.PlanLine.{PlanLine}
use Rattle.task_types.specs.Plan.{Plan, Step, end_of, line_steps}
use Rattle.timed_meaning.specs.declared.steps.OwnedStep.{OwnedStep}
use Rattle.timed_meaning.specs.declared.placing.PlacedLine.{PlacedLine}
use Rattle.timed_meaning.specs.Told.{timed_step}

-- ---- steps

abbrev pub owned : ℕ → Step → OwnedStep
owned place step = record { step = step; owner = place }

-- the steps of a line belong to its place
abbrev pub owned_line : TaskParts → ℕ × PlanLine → List OwnedStep
owned_line task e = map (owned e.0) (line_steps task e.1)

-- a timed step belongs to the place that it has behind n lines
abbrev pub owned_moment : ℕ → ℕ × (ℚ × ℕ) → OwnedStep
owned_moment n e = owned (n + e.0) (timed_step e.1)

-- The steps of a plan, in the order of the definition, each with its owner.
abbrev pub owned_steps : TaskParts → Plan → List OwnedStep
owned_steps task plan = flat_map (owned_line task) (enumerate_from 0 plan) ++ map (owned_moment (length plan)) (enumerate_from 0 task.timed)

abbrev pub steps_of : List OwnedStep → List Step
steps_of xs = map (λ x. x.step) xs

-- ---- lines

-- a line with its place and its end
abbrev pub placed : ℕ × PlanLine → PlacedLine
placed e = record { place = e.0; line = e.1; end = end_of e.1 }

abbrev pub placed_lines : Plan → List PlacedLine
placed_lines plan = map placed (enumerate_from 0 plan)

abbrev pub lines_of : List PlacedLine → Plan
lines_of xs = map (λ x. x.line) xs
