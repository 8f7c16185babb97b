-- Things that are made of each element of a list, one after another.
use Rattle.std.proofs.Common.{◌≡◌, sym, ap, subst, ◌∙◌, ℕ, ◌+◌, ◌<◌, ◌≤◌, List, [], ◌∷◌, ◌++◌, map, length, take}
use Rattle.std.specs.Prelude.{slice_index_or}
use Rattle.std.specs.List.{AllByRecursion}
use Rattle.std.proofs.lemmas.List.{map-append, take_more, take_all}
use Rattle.basics.proofs.Lists.{each_append, each_at}

module _ {X Y : Type 0} (P : X → Type 0) (f : X → Y) where
  -- of the first i elements each can be made, and is
  pub record AreMade (xs : List X) (i : ℕ) (out : List Y) : Type 0 where
    pub can : AllByRecursion P (take i xs)
    pub are : out ≡ map f (take i xs)

  module _ (xs : List X) (i : ℕ) (x : X) (l : i < length xs) (e : x ≡ slice_index_or xs i x) where
    pub AreMade-next : (out more : List Y) (y : Y) → AreMade xs i out → P x × (y ≡ f x) → more ≡ out ++ y ∷ [] → AreMade xs (i + 1) more
    AreMade-next out more y m h k = record {
      can = subst (AllByRecursion P) (sym one_more) (each_append P (take i xs) (x ∷ []) m.can (h.0, tt));
      are = k ∙ ap (λ ys. ys ++ y ∷ []) m.are ∙ ap (λ z. map f (take i xs) ++ z ∷ []) h.1 ∙ sym (ap (map f) one_more ∙ map-append f (take i xs) (x ∷ []));
    }
      where
        one_more : take (i + 1) xs ≡ take i xs ++ x ∷ []
        one_more = take_more xs i x l ∙ ap (λ y. take i xs ++ y ∷ []) (sym e)

    pub element_needed : AllByRecursion P xs → P x
    element_needed a = subst P (sym e) (each_at P xs i x l a)

  pub AreMade-end : (xs : List X) (i : ℕ) (out : List Y) → length xs ≤ i → AreMade xs i out → AllByRecursion P xs × (out ≡ map f xs)
  AreMade-end xs i out h m = let all : take i xs ≡ xs = take_all i xs h in (subst (AllByRecursion P) all m.can, m.are ∙ ap (map f) all)
