-- Counts and greatest numbers that are kept along a list.
use Rattle.std.proofs.Common.{◌≡◌, refl, sym, ap, ap₂, ◌∙◌, ℕ, ◌+◌, ◌<◌, ◌≤◌, arith, min, max, Bool, List, [], ◌∷◌, ◌++◌, map, length, take, get_or}
use Rattle.std.specs.List.{filter}
use Rattle.std.proofs.lemmas.List.{length-append, length-take, map-append}
use Rattle.std.proofs.lemmas.List.Elements.{filter-append}
use Rattle.ground_world.proofs.Steps.{taken}
use Rattle.grounder.specs.Answer.{greatest}
use Rattle.basics.proofs.Lists.{filter-shorter}

greatest-push : (ns : List ℕ) (n : ℕ) → greatest (ns ++ (n ∷ [])) ≡ max n (greatest ns)
greatest-push [] n = refl
greatest-push (m ∷ ns) n = let ih : greatest (ns ++ (n ∷ [])) ≡ max n (greatest ns) = greatest-push ns n in omega arith

module _ {X : Type 0} (xs : List X) (i : ℕ) (x : X) (lt : i < length xs) (at : x ≡ get_or xs i x) where
  pub greatest-more : (f : X → ℕ) → greatest (map f (take (i + 1) xs)) ≡ max (f x) (greatest (map f (take i xs)))
  greatest-more f = ap (λ ys. greatest (map f ys)) (taken xs i x lt at) ∙ ap greatest (map-append f (take i xs) (x ∷ [])) ∙ greatest-push (map f (take i xs)) (f x)

  pub count-more : (p : X → Bool) (n m : ℕ) → n ≡ length (filter p (take i xs)) → m ≡ length (filter p (x ∷ [])) → n + m ≡ length (filter p (take (i + 1) xs))
  count-more p n m e k =
      ap₂ (λ a b. a + b) e k
      ∙ sym (length-append (filter p (take i xs)) (filter p (x ∷ [])))
      ∙ ap length (sym (filter-append p (take i xs) (x ∷ [])))
      ∙ ap (λ ys. length (filter p ys)) (sym (taken xs i x lt at))

pub count-within : {X : Type 0} (p : X → Bool) (xs : List X) (i : ℕ) → length (filter p (take i xs)) ≤ i
count-within p xs i =
    let a : length (filter p (take i xs)) ≤ length (take i xs) = filter-shorter p (take i xs) in
    let b : length (take i xs) ≡ min i (length xs) = length-take i xs in
    omega arith

pub count-one : {X : Type 0} (p : X → Bool) (x : X) → length (filter p (x ∷ [])) ≤ 1
count-one p x = filter-shorter p (x ∷ [])

pub count-fits : {X : Type 0} (p : X → Bool) (xs : List X) (i : ℕ) (x : X) (n m : ℕ) → i < length xs → n ≡ length (filter p (take i xs)) → m ≡ length (filter p (x ∷ [])) → n + m ≤ i + 1
count-fits p xs i x n m lt e k =
    let a : length (filter p (take i xs)) ≤ i = count-within p xs i in
    let b : length (filter p (x ∷ [])) ≤ 1 = count-one p x in
    omega arith
