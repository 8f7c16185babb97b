use Rattle.std.proofs.Common.{◌≡◌, take}
use Rattle.std.specs.List.{flat_map}
use Rattle.task_types.specs.Reckoned.{read_reckoned}
use Rattle.timed_meaning.specs.Answers.{told, Defined}
use Rattle.plan_validator.specs.Readings.{with_steps}
use Rattle.plan_validator.proofs.readings.read_steps.Given as goal

abbrev pub invariant-loop-owned : goal.invariant-loop-owned
invariant-loop-owned l = record {
  defined : Defined (flat_map (λ o. read_reckoned l.parts (told l.facts l.fluents) o.step) (take l.owned-index l.here));
  noted : l.readings ≡ with_steps l.parts l.rules (told l.facts l.fluents) l.fn.readings (take l.owned-index l.here);
}
