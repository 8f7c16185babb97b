-- Believed: which `=` is an equality of terms, and which a comparison of numbers.
use Rattle.std.specs.Prelude.{Bool, true, false, ◌&&◌, ◌||◌, not, List}
use Rattle.pddl_terms.specs.declared.trees.Side.{Side}
use Rattle.pddl_terms.specs.declared.trees.Side.TheVariants as side
use Rattle.pddl_names.specs.Declarations.{Text, among}

-- a variable or a name
abbrev pub is_word : Side → Bool
is_word (side.Variable n) = true
is_word (side.Bare n) = true
is_word (side.Expression e) = false

-- a variable or the name of none of these functions
abbrev pub is_term : List Text → Side → Bool
is_term functions (side.Variable n) = true
is_term functions (side.Bare n) = not (among functions n.bytes)
is_term functions (side.Expression e) = false

-- Each side is a variable or a name, and at least one is a variable or the name of no function.
abbrev pub is_equality : List Text → Side → Side → Bool
is_equality functions left right = is_word left && (is_word right && (is_term functions left || is_term functions right))
