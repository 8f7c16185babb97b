-- Private: a small task with soft terms, on which the tests reckon costs.
use Rattle.std.specs.Prelude.{List, [], ◌∷◌, Some, true, codes, pos}
use Rattle.rational.specs.Rational.{whole}
use Rattle.task_types.specs.declared.actions.Snap.{Snap}
use Rattle.task_types.specs.declared.actions.SnapKind.{SnapKind}
use Rattle.task_types.specs.declared.actions.SnapKind.TheVariants.{Start, End}
use Rattle.task_types.specs.declared.constraints.TrailKind.TheVariants.{AtEnd, Within}
use Rattle.task_types.specs.declared.costs.Metric.{Metric}
use Rattle.task_types.specs.declared.costs.Soft.{Soft}
use Rattle.task_types.specs.declared.costs.Soft.TheVariants as soft
use Rattle.task_types.specs.declared.formulas.FactTree.TheVariants as tree
use Rattle.task_types.specs.declared.parts.TaskParts.{TaskParts}
use Rattle.task_types.specs.Plan.{Plan}
use Rattle.task_types.specs.Examples.{always_true, durative, linear, nothing, schema}

abbrev pub start_or_end : SnapKind → Snap
start_or_end kind = record { kind = kind; action = Some 0; condition = always_true; effect = nothing; rates = [] }

-- A preference that no state meets, a constraint that no last state meets, one that every first state meets, and a time
-- cost whose formula never holds.
abbrev pub unmet : Soft
unmet = soft.Goal (tree.Or []) [] (whole (pos 2))

abbrev pub unmet_at_end : Soft
unmet_at_end = soft.Trail (record { kind = AtEnd; first = tree.Or []; second = tree.True; moment = whole (pos 0) }) (whole (pos 3))

abbrev pub met_at_once : Soft
met_at_once = soft.Trail (record { kind = Within; first = tree.True; second = tree.True; moment = whole (pos 0) }) (whole (pos 5))

abbrev pub never : Soft
never = soft.Late (tree.Or []) (record { soft = whole (pos 2); hard = whole (pos 6); top = whole (pos 8) }) (whole (pos 1))

-- two instances of the first, and one of each other
abbrev pub terms : List Soft
terms = unmet ∷ unmet ∷ unmet_at_end ∷ met_at_once ∷ never ∷ []

abbrev pub by_time : Metric
by_time = record { constant = whole (pos 0); last = whole (pos 1); fluents = linear (whole (pos 0)) [] }

-- One action starts and ends, and changes nothing; the cost is the total time and the soft terms.
abbrev pub going : TaskParts
going = record {
  objects = [];
  schemas = schema (codes "go") true ∷ [];
  facts = [];
  fluents = [];
  actions = durative (codes "go") 0 1 [] always_true ∷ [];
  snaps = start_or_end Start ∷ start_or_end End ∷ [];
  timed = [];
  goal = always_true;
  hard = [];
  soft = terms;
  metric = by_time;
}

-- It goes once, from 1 to 3.
abbrev pub going_once : Plan
going_once = record { action = 0; at = whole (pos 1); duration = Some (whole (pos 2)); line = 1 } ∷ []
