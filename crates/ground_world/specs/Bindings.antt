-- Believed: bindings of variables, the last variable fastest.
use Rattle.std.specs.Prelude.{ℕ, ◌*◌, ◌/◌, ◌%◌, slice_index_or, List, [], ◌∷◌, ◌++◌, map, length}
use Rattle.std.specs.List.{flat_map, range_with_len}
use Rattle.pddl_terms.specs.declared.trees.Group.{Group}
use Rattle.pddl_names.specs.Declarations.{Text}
use Rattle.ground_world.specs.World.{World, Env, columns, variable_names}

-- one object of each column, in all ways: the first column slowest, the last fastest
abbrev pub choices : List (List ℕ) → List (List ℕ)
choices [] = [] ∷ []
choices (c ∷ cs) = flat_map (λ o. map (λ rest. o ∷ rest) (choices cs)) c

-- how many ways there are
abbrev pub choice_count : List (List ℕ) → ℕ
choice_count [] = 1
choice_count (c ∷ cs) = length c * choice_count cs

-- 0, 1, .. below n
abbrev pub numbers : ℕ → List ℕ
numbers n = range_with_len 0 n

-- way number k: the digits of k in the lengths of the columns, the last column's the lowest
abbrev pub choice_at : List (List ℕ) → ℕ → List ℕ
choice_at [] k = []
choice_at (c ∷ cs) k = slice_index_or c (k / choice_count cs) 0 ∷ choice_at cs (k % choice_count cs)

-- variables paired with the objects that were chosen for them
abbrev pub paired : List Text → List ℕ → Env
paired [] os = []
paired (v ∷ vs) [] = []
paired (v ∷ vs) (o ∷ os) = (v, o) ∷ paired vs os

-- the bindings of the variables of a list under an outer binding
abbrev pub bindings : World → Env → List Group → List Env
bindings w env vars = map (λ os. env ++ paired (variable_names vars) os) (choices (columns w vars))

-- the variables of several lists together, outer first, and their columns
abbrev pub all_names : List (List Group) → List Text
all_names around = flat_map variable_names around

abbrev pub all_columns : World → List (List Group) → List (List ℕ)
all_columns w around = flat_map (columns w) around

-- the bindings of several lists of variables, one inside the other
abbrev pub nested_bindings : World → Env → List (List Group) → List Env
nested_bindings w env [] = env ∷ []
nested_bindings w env (vars ∷ inner) = flat_map (λ e. nested_bindings w e inner) (bindings w env vars)
