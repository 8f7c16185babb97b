-- Leaves inside lists of variables.
use Rattle.std.proofs.Common.{◌≡◌, refl, sym, ap, ap₂, List, [], ◌∷◌, ◌++◌, map, append_assoc}
use Rattle.std.proofs.lemmas.List.{append-nil}
use Rattle.pddl_terms.specs.declared.trees.Group.{Group}
use Rattle.ground_world.specs.Leaves.{Leaf, within, bare}
use Rattle.ground_world.specs.Insides.{inside}

module _ {A : Type 0} where
  -- one list more
  pub inside-within : (outer : List (List Group)) (vars : List Group) (ls : List (Leaf A))
      → map (inside (outer ++ (vars ∷ []))) ls ≡ map (inside outer) (within vars ls)
  inside-within outer vars [] = refl
  inside-within outer vars (l ∷ ls) =
      ap₂ (λ (x : Leaf A) (xs : List (Leaf A)). x ∷ xs)
      (ap (λ (a : List (List Group)). record { around = a; leaf = l.leaf }) (append_assoc outer (vars ∷ []) l.around))
      (inside-within outer vars ls)

  pub inside-bare : (outer : List (List Group)) (x : A) → record { around = outer; leaf = x } ∷ [] ≡ map (inside outer) (bare x)
  inside-bare outer x = ap (λ (a : List (List Group)). record { around = a; leaf = x } ∷ []) (sym (append-nil outer))

  pub inside-none : (ls : List (Leaf A)) → map (inside []) ls ≡ ls
  inside-none [] = refl
  inside-none (l ∷ ls) = ap (λ (xs : List (Leaf A)). l ∷ xs) (inside-none ls)
