use Rattle.std.proofs.Common.{◌≡◌, take}
use Rattle.std.specs.List.{flat_map}
use Rattle.pddl_forms.specs.Offences.{least_with}
use Rattle.pddl_forms.specs.Limits.{action_limits}
use Rattle.pddl_forms.proofs.limits.least_of_actions.Given as goal

abbrev pub invariant-loop-action : goal.invariant-loop-action
invariant-loop-action l = l.found ≡ least_with l.fn.found (flat_map action_limits (take l.action-index l.actions))
