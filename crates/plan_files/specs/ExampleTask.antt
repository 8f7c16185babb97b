-- Private: a small task for whose plans the tests read texts.
use Rattle.std.specs.Prelude.{[], ◌∷◌, Some, true, false, codes}
use Rattle.task_types.specs.declared.actions.Action.{Action}
use Rattle.task_types.specs.declared.actions.Schema.{Schema}
use Rattle.task_types.specs.declared.parts.TaskParts.{TaskParts}
use Rattle.task_types.specs.Examples.{always_true, at_end, at_once, at_start, instant, no_metric, nothing, schema}

-- `go` takes time and one of the objects `a` and `b`
abbrev pub go_somewhere : Schema
go_somewhere = record { name = codes "go"; durative = true; params = (0 ∷ 1 ∷ []) ∷ [] }

abbrev pub go_to_a : Action
go_to_a = record { name = codes "go"; args = 0 ∷ []; start = 0; end = Some 1; bounds = []; over_all = always_true }

-- Grounding kept `go a`, not `go b`; `stop` takes neither time nor an object.
abbrev pub trip : TaskParts
trip = record {
  objects = codes "a" ∷ codes "b" ∷ [];
  schemas = go_somewhere ∷ schema (codes "stop") false ∷ [];
  facts = [];
  fluents = [];
  actions = go_to_a ∷ instant (codes "stop") 2 ∷ [];
  snaps = at_start 0 [] ∷ at_end 0 nothing ∷ at_once 1 always_true nothing ∷ [];
  timed = [];
  goal = always_true;
  hard = [];
  soft = [];
  metric = no_metric;
}
