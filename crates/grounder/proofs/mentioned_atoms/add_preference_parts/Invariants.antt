use Rattle.std.proofs.Common.{◌≡◌, take}
use Rattle.std.specs.List.{flat_map}
use Rattle.pddl_names.specs.Declarations.{with_new}
use Rattle.ground_world.specs.Shown.{env_of, world_of}
use Rattle.grounder.specs.ShownPreferences.{preferences_of}
use Rattle.grounder.specs.Terms.{preference_atoms}
use Rattle.grounder.proofs.mentioned_atoms.add_preference_parts.Given as goal

abbrev pub invariant-loop-part : goal.invariant-loop-part
invariant-loop-part l = l.atoms ≡ with_new l.fn.atoms (flat_map (preference_atoms (world_of l.tables) (env_of l.env)) (preferences_of (take l.part-index l.parts)))
