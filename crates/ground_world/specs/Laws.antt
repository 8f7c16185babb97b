-- Believed: what is claimed of bindings.
use Rattle.std.specs.Prelude.{ℕ, ◌≡◌, Bool, false, if◌then◌else◌, List, [], ◌∷◌, ◌++◌, map}
use Rattle.std.specs.List.{flat_map, filter}
use Rattle.pddl_terms.specs.declared.trees.Group.{Group}
use Rattle.ground_world.specs.World.{World, Env}
use Rattle.ground_world.specs.Bindings.{numbers, choices, choice_count, choice_at, paired, nested_bindings, all_names, all_columns}

-- The ways to choose are those of number 0, 1, 2 ..
abbrev pub ChoicesByNumber : Type 0
ChoicesByNumber = (cs : List (List ℕ)) → choices cs ≡ map (choice_at cs) (numbers (choice_count cs))

-- A test on whole choices can be made in nested loops, and a beginning left out where no choice that goes on from it
-- passes: what a join does.
abbrev pub FilterIsNested : Type 0
FilterIsNested = (p alive : List ℕ → Bool) (before c : List ℕ) (cs : List (List ℕ))
    → ((start rest : List ℕ) → alive start ≡ false → p (start ++ rest) ≡ false)
    → filter p (map (λ rest. before ++ rest) (choices (c ∷ cs)))
    ≡ flat_map (λ o. if alive (before ++ (o ∷ [])) then filter p (map (λ rest. (before ++ (o ∷ [])) ++ rest) (choices cs)) else []) c

-- Lists of variables, one inside the other, have the bindings of one list with all their variables.
abbrev pub NestedAsOne : Type 0
NestedAsOne = (w : World) (env : Env) (around : List (List Group))
    → nested_bindings w env around ≡ map (λ os. env ++ paired (all_names around) os) (choices (all_columns w around))
