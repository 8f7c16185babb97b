use Rattle.std.proofs.Common.{◌≡◌, take}
use Rattle.std.specs.List.{flat_map}
use Rattle.pddl_names.specs.Declarations.{with_new}
use Rattle.pddl_forms.specs.Functions.{timed_changed_by}
use Rattle.pddl_forms.proofs.functions.+add_timed_changed.Given as goal

abbrev pub decreases-add_timed_changed : goal.decreases-add_timed_changed
decreases-add_timed_changed l = goal.size-add_timed_changed l

abbrev pub invariant-loop-part : goal.invariant-loop-part
invariant-loop-part l = l.names ≡ with_new l.fn.names (flat_map timed_changed_by (take l.part-index l.part-items))
