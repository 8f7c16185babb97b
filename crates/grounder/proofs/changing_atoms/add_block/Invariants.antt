use Rattle.std.proofs.Common.{◌≡◌, ◌∷◌, map, take}
use Rattle.pddl_names.specs.Declarations.{with_new}
use Rattle.ground_world.specs.Bindings.{choices}
use Rattle.ground_world.specs.Shown.{columns_of}
use Rattle.grounder.proofs.changing_atoms.add_block.Given as goal

abbrev pub invariant-loop-number : goal.invariant-loop-number
invariant-loop-number l = l.atoms ≡ with_new l.fn.atoms (map (λ os. l.block.predicate ∷ os) (take l.number (choices (columns_of l.slots))))
