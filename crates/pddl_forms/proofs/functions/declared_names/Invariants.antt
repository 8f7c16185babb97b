use Rattle.std.proofs.Common.{◌≡◌, take, []}
use Rattle.std.specs.List.{flat_map}
use Rattle.pddl_names.specs.Declarations.{with_new}
use Rattle.pddl_forms.specs.Functions.{declared_name}
use Rattle.pddl_forms.proofs.functions.declared_names.Given as goal

abbrev pub invariant-loop-function : goal.invariant-loop-function
invariant-loop-function l = l.names ≡ with_new [] (flat_map declared_name (take l.function-index l.functions))
