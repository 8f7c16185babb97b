use Rattle.std.proofs.Common.{◌≡◌, [], take}
use Rattle.std.specs.List.{list_all, flat_map}
use Rattle.task_types.specs.State.{comparison_holds}
use Rattle.timed_meaning.specs.Answers.{told, Defined}
use Rattle.plan_validator.specs.Readings.{one_value}
use Rattle.plan_validator.proofs.conditions.forms_hold.Given as goal

abbrev pub invariant-loop-form : goal.invariant-loop-form
invariant-loop-form l = record {
  defined : Defined (flat_map (one_value (told [] l.fluents)) (take l.form-index l.forms));
  tested : l.all ≡ list_all (λ e. comparison_holds e (told [] l.fluents).fluents) (take l.form-index l.forms);
}
