use Rattle.std.proofs.Common.{◌≡◌, take}
use Rattle.std.specs.List.{flat_map}
use Rattle.pddl_names.specs.Declarations.{with_new}
use Rattle.pddl_names.specs.Files.{goal_preferences}
use Rattle.pddl_names.proofs.preferences.+note_goal.Given as goal

abbrev pub decreases-note_goal : goal.decreases-note_goal
decreases-note_goal l = goal.size-note_goal l

abbrev pub invariant-loop-part : goal.invariant-loop-part
invariant-loop-part l = l.names ≡ with_new l.initial.names (flat_map goal_preferences (take l.part-index l.part-items))
