-- Private: a small task on which the tests validate plans.
use Rattle.std.specs.Prelude.{[], ◌∷◌, Some, true, false, codes, pos}
use Rattle.rational.specs.Rational.{whole}
use Rattle.task_types.specs.declared.actions.Snap.{Snap}
use Rattle.task_types.specs.declared.actions.SnapKind.TheVariants.{End}
use Rattle.task_types.specs.declared.constraints.Trail.{Trail}
use Rattle.task_types.specs.declared.constraints.TrailKind.TheVariants.{Within}
use Rattle.task_types.specs.declared.costs.Metric.{Metric}
use Rattle.task_types.specs.declared.formulas.FactTree.TheVariants as tree
use Rattle.task_types.specs.declared.parts.TaskParts.{TaskParts}
use Rattle.task_types.specs.Examples.{always_true, fact_holds, nothing, makes, ends_fact, durative, instant, schema, at_start, at_once, at_moment, unset, linear}

-- it ends only where the gate is open
abbrev pub stop : Snap
stop = record { kind = End; action = Some 0; condition = fact_holds 0; effect = nothing; rates = [] }

-- the work is done by time 8
abbrev pub soon : Trail
soon = record { kind = Within; first = tree.Is (record { fact = 1; holds = true }); second = tree.True; moment = whole (pos 8) }

abbrev pub by_time : Metric
by_time = record { constant = whole (pos 0); last = whole (pos 1); fluents = linear (whole (pos 0)) [] }

-- A gate opens at time 5. Going needs it open all the while and at the end, finishing needs it open and does the work, and
-- closing closes it. The goal is that the work is done, and the cost is the total time.
abbrev pub gate : TaskParts
gate = record {
  objects = [];
  schemas = schema (codes "go") true ∷ schema (codes "finish") false ∷ schema (codes "close") false ∷ [];
  facts = unset (codes "open") ∷ unset (codes "done") ∷ [];
  fluents = [];
  actions = durative (codes "go") 0 1 [] (fact_holds 0) ∷ instant (codes "finish") 2 ∷ instant (codes "close") 3 ∷ [];
  snaps = at_start 0 [] ∷ stop ∷ at_once 1 (fact_holds 0) (makes 1) ∷ at_once 2 always_true (ends_fact 0) ∷ at_moment (makes 0) ∷ [];
  timed = (whole (pos 5), 4) ∷ [];
  goal = fact_holds 1;
  hard = soon ∷ [];
  soft = [];
  metric = by_time;
}
