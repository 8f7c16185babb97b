-- Private: the predicates that change, each with the columns of its parameters.
use Rattle.std.specs.Prelude.{ℕ, ◌+◌, ◌==◌, if◌then◌else◌, not, List, [], ◌∷◌, map}
use Rattle.std.specs.List.{filter, enumerate_from}
use Rattle.pddl_terms.specs.declared.trees.Group.{Group}
use Rattle.pddl_terms.specs.declared.files.Declared.{Declared}
use Rattle.pddl_terms.specs.declared.files.Declared.TheVariants as declared
use Rattle.pddl_names.specs.Declarations.{Signature}
use Rattle.ground_world.specs.World.{World, GroundAtom, place_in, columns}
use Rattle.ground_world.specs.Bindings.{choices, choice_count}

-- a predicate by its place, and the columns of its parameters
abbrev pub Block : Type 0
Block = ℕ × List (List ℕ)

abbrev pub block_atoms : Block → List GroundAtom
block_atoms b = map (λ os. b.0 ∷ os) (choices b.1)

abbrev pub block_count : Block → ℕ
block_count b = choice_count b.1

-- that of a numbered declaration
abbrev pub block_from : World → ℕ × Signature → Block
block_from w x = (x.0, map w.fitting x.1.1)

-- those of the predicates that some first declarations declare and that change
abbrev pub changing_blocks : World → List Signature → List Block
changing_blocks w ss = map (block_from w) (filter (λ x. not (w.is_static x.0)) (enumerate_from 0 ss))

-- what one declaration more adds, where `count` predicates are declared before it
abbrev pub next_block : World → ℕ → Declared → List Block
next_block w count (declared.Named at n parameters) = if place_in w.predicates n.bytes == count
    then (if w.is_static (place_in w.predicates n.bytes) then [] else (place_in w.predicates n.bytes, columns w parameters) ∷ []) else []
next_block w count (declared.LeftOut at) = []

abbrev pub next_count : World → ℕ → Declared → ℕ
next_count w count (declared.Named at n parameters) = if place_in w.predicates n.bytes == count
    then place_in w.predicates n.bytes + 1 else count
next_count w count (declared.LeftOut at) = count
