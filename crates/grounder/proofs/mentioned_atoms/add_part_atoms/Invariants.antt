use Rattle.std.proofs.Common.{◌≡◌, take}
use Rattle.std.specs.List.{flat_map}
use Rattle.pddl_names.specs.Declarations.{with_new}
use Rattle.ground_world.specs.Shown.{parts_of}
use Rattle.grounder.specs.Terms.{part_atoms}
use Rattle.grounder.proofs.mentioned_atoms.add_part_atoms.Given as goal

abbrev pub invariant-loop-part : goal.invariant-loop-part
invariant-loop-part l = l.atoms ≡ with_new l.fn.atoms (flat_map part_atoms (parts_of (take l.part-index l.parts)))
