use Rattle.std.proofs.Common.{◌≡◌, take, []}
use Rattle.std.specs.List.{flat_map}
use Rattle.pddl_names.specs.Declarations.{with_new}
use Rattle.pddl_forms.specs.Functions.{changed_by_action}
use Rattle.pddl_forms.proofs.functions.changed_names.Given as goal

abbrev pub invariant-loop-action : goal.invariant-loop-action
invariant-loop-action l = l.names ≡ with_new [] (flat_map changed_by_action (take l.action-index l.actions))
