-- Private: a small task on which the tests build a timed plan.
use Rattle.std.specs.Prelude.{[], ◌∷◌, Some, true, pos, codes}
use Rattle.rational.specs.Rational.{whole}
use Rattle.task_types.specs.declared.actions.Snap.{Snap}
use Rattle.task_types.specs.declared.actions.SnapKind.{SnapKind}
use Rattle.task_types.specs.declared.actions.SnapKind.TheVariants.{Start, End}
use Rattle.task_types.specs.declared.parts.TaskParts.{TaskParts}
use Rattle.task_types.specs.Plan.{Plan}
use Rattle.task_types.specs.Examples.{always_true, durative, no_metric, nothing, schema}

abbrev pub start_or_end : SnapKind → Snap
start_or_end kind = record { kind = kind; action = Some 0; condition = always_true; effect = nothing; rates = [] }

-- One action starts and ends, and changes nothing.
abbrev pub going : TaskParts
going = record {
  objects = [];
  schemas = schema (codes "go") true ∷ [];
  facts = [];
  fluents = [];
  actions = durative (codes "go") 0 1 [] always_true ∷ [];
  snaps = start_or_end Start ∷ start_or_end End ∷ [];
  timed = [];
  goal = always_true;
  hard = [];
  soft = [];
  metric = no_metric;
}

-- It goes once, from 1 to 3.
abbrev pub going_once : Plan
going_once = record { action = 0; at = whole (pos 1); duration = Some (whole (pos 2)); line = 1 } ∷ []
