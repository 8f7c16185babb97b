-- The names of a typed list, group by group: the one at a place, and how many there are.
use Rattle.std.proofs.Common.{◌≡◌, refl, ap, ◌∙◌, ℕ, zero, suc, ◌+◌, ◌-◌, ◌<◌, ◌≤◌, List, [], ◌∷◌, ◌++◌, length, None, arith}
use Rattle.std.specs.Prelude.{slice_get}
use Rattle.std.proofs.lemmas.List.{length-append}
use Rattle.pddl_terms.specs.declared.trees.Group.{Group}
use Rattle.pddl_forms.specs.Limits.{names_in}

slice_get-before : {A : Type 0} (xs ys : List A) (i : ℕ) → i < length xs → slice_get (xs ++ ys) i ≡ slice_get xs i
slice_get-before [] ys i h = absurd (omega arith)
slice_get-before (x ∷ xs) ys zero h = refl
slice_get-before (x ∷ xs) ys (suc i) h = slice_get-before xs ys i (omega arith)

slice_get-behind : {A : Type 0} (xs ys : List A) (i : ℕ) → length xs ≤ i → slice_get (xs ++ ys) i ≡ slice_get ys (i - length xs)
slice_get-behind [] ys i h = ap (slice_get ys) (omega arith)
slice_get-behind (x ∷ xs) ys zero h = absurd (omega arith)
slice_get-behind (x ∷ xs) ys (suc i) h = slice_get-behind xs ys i (omega arith) ∙ ap (slice_get ys) (omega arith)

pub name-here : (groups more : List Group) (g : Group) (place : ℕ) → groups ≡ g ∷ more → place < length g.names → slice_get (names_in groups) place ≡ slice_get g.names place
name-here groups more g place e h = ap (λ gs. slice_get (names_in gs) place) e ∙ slice_get-before g.names (names_in more) place h

pub name-later : (groups more : List Group) (g : Group) (place : ℕ) → groups ≡ g ∷ more → length g.names ≤ place → slice_get (names_in groups) place ≡ slice_get (names_in more) (place - length g.names)
name-later groups more g place e h = ap (λ gs. slice_get (names_in gs) place) e ∙ slice_get-behind g.names (names_in more) place h

pub name-none : (groups : List Group) (place : ℕ) → groups ≡ [] → slice_get (names_in groups) place ≡ None
name-none groups place e = ap (λ gs. slice_get (names_in gs) place) e

pub ruleset names_of = (name-here, name-later, name-none)

pub count-more : (groups more : List Group) (g : Group) → groups ≡ g ∷ more → length (names_in groups) ≡ length g.names + length (names_in more)
count-more groups more g e = ap (λ gs. length (names_in gs)) e ∙ length-append g.names (names_in more)

pub count-none : (groups : List Group) → groups ≡ [] → length (names_in groups) ≡ 0
count-none groups e = ap (λ gs. length (names_in gs)) e

pub ruleset counts_of = (count-none, count-more)
