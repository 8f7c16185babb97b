use Rattle.std.proofs.Common.{◌≡◌, take}
use Rattle.std.specs.List.{flat_map}
use Rattle.pddl_names.specs.Declarations.{with_new}
use Rattle.pddl_names.specs.Files.{constraint_preferences}
use Rattle.pddl_names.proofs.preferences.+note_constraint.Given as goal

abbrev pub decreases-note_constraint : goal.decreases-note_constraint
decreases-note_constraint l = goal.size-note_constraint l

abbrev pub invariant-loop-part : goal.invariant-loop-part
invariant-loop-part l = l.names ≡ with_new l.initial.names (flat_map constraint_preferences (take l.part-index l.part-items))
