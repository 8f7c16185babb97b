use Rattle.std.proofs.Common.{◌≡◌, ◌++◌, length}
use Rattle.std.specs.List.{flat_map}
use Rattle.task_types.specs.Sets.{numbers}
use Rattle.rate_ledger.specs.Ledgers.{Keeps}
use Rattle.lp_rows.specs.StepRows.{step_rows}
use Rattle.lp_rows.specs.Programs.{AllDefined}
use Rattle.lp_rows.specs.Faulting.{step_places}
use Rattle.lp_rows.proofs.base.push_all.Given as goal

abbrev pub invariant-loop-number : goal.invariant-loop-number
invariant-loop-number l = record {
  keeps : Keeps l.task.parts l.ledger;
  same : l.ledger.steps ≡ l.steps;
  taken : length l.ledger.changes ≡ l.number;
  defined : AllDefined (step_places l.task.parts l.steps l.number);
  are : l.out ≡ l.fn.out ++ flat_map (step_rows l.task.parts l.rules (record { steps = l.steps; extra = l.extra }) l.last) (numbers l.number);
}
