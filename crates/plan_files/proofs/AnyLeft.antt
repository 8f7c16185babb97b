-- A test of some element, looked for element by element.
use Rattle.std.proofs.Common.{◌≡◌, refl, sym, ap, ◌∙◌, ℕ, ◌+◌, ◌<◌, ◌≤◌, Bool, true, false, ◌||◌, List, ◌∷◌, length, drop}
use Rattle.std.specs.Prelude.{slice_index_or}
use Rattle.std.specs.List.{list_any}
use Rattle.std.proofs.lemmas.List.{drop_more, drop_all}

module _ {X : Type 0} (p : X → Bool) where
  -- none of the first i passes
  pub record AnyLeft (xs : List X) (i : ℕ) : Type 0 where
    pub left : list_any p xs ≡ list_any p (drop i xs)

  pub any-begin : (xs : List X) → AnyLeft xs 0
  any-begin xs = record { left = refl }

  module _ (xs : List X) (i : ℕ) (x : X) (h : i < length xs) (e : x ≡ slice_index_or xs i x) (n : AnyLeft xs i) where
    here : list_any p xs ≡ (p x || list_any p (drop (i + 1) xs))
    here = n.left ∙ ap (list_any p) (drop_more xs i x h ∙ ap (λ y. y ∷ drop (i + 1) xs) (sym e))

    pub any-found : p x ≡ true → list_any p xs ≡ true
    any-found f = here ∙ ap (λ b. b || list_any p (drop (i + 1) xs)) f

    pub any-next : p x ≡ false → AnyLeft xs (i + 1)
    any-next f = record { left = here ∙ ap (λ b. b || list_any p (drop (i + 1) xs)) f }

  pub any-end : (xs : List X) (i : ℕ) → length xs ≤ i → AnyLeft xs i → list_any p xs ≡ false
  any-end xs i h n = n.left ∙ ap (list_any p) (drop_all i xs h)
