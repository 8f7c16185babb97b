use Rattle.std.proofs.Common.{◌≡◌, [], take}
use Rattle.std.specs.List.{list_all, flat_map}
use Rattle.timed_meaning.specs.Answers.{told, Defined}
use Rattle.plan_validator.specs.Readings.{bound_value, bound_read}
use Rattle.plan_validator.proofs.readings.read_bounds.Given as goal

abbrev pub invariant-loop-bound : goal.invariant-loop-bound
invariant-loop-bound l = record {
  defined : Defined (flat_map (bound_value l.kind (told [] l.fluents)) (take l.bound-index l.bounds));
  tested : l.all ≡ list_all (bound_read l.kind (told [] l.fluents) l.duration) (take l.bound-index l.bounds);
}
