-- Believed: which type is below which. Types form a graph with one way up, which may lead in a ring.
use Rattle.std.specs.Prelude.{ℕ, zero, suc, Bool, ◌||◌, if◌then◌else◌, nat_eq, List, [], ◌∷◌, length, Option, None}
use Rattle.std.specs.Option.{option_map_or}
use Rattle.std.specs.Str.{bytes_eq}
use Rattle.pddl_names.specs.Declarations.{Text, Typed, object_word, value_of, among}

-- the type right above a type; nothing is above `object`
abbrev pub above : List Typed → Text → Option Text
above types t = if bytes_eq t object_word then None else value_of types t

-- a type and those above it, at most so many steps up
unfoldable pub chain : List Typed → ℕ → Text → List Text
chain types zero t = t ∷ []
chain types (suc n) t = t ∷ option_map_or (chain types n) (above types t) []

-- One type is the other or below it. No way is longer than there are types.
abbrev pub is_below : List Typed → Text → Text → Bool
is_below types t u = among (chain types (length types) t) u

-- no name
abbrev pub is_nothing : Text → Bool
is_nothing t = nat_eq (length t) 0

-- What is of one type is of the other: each type fits itself, those above it and `object`. A type that is left out fits each, and each fits it.
unfoldable pub fits : List Typed → Text → Text → Bool
fits types t u = is_nothing t || (is_nothing u || (bytes_eq u object_word || is_below types t u))
