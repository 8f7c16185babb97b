-- Two different numbers stand in a list exactly where one differs from the first.
use Rattle.std.proofs.Common.{◌≡◌, refl, sym, ap, subst, ◌∙◌, ℕ, ◌<◌, ◌≤◌, Bool, true, false, ◌||◌, ◌==◌, List, [], ◌∷◌, length, map, take, arith}
use Rattle.std.specs.Prelude.{not, slice_index_or}
use Rattle.std.specs.List.{list_any}
use Rattle.std.proofs.lemmas.Bool.{eq-eqb}
use Rattle.std.proofs.lemmas.Bool.Decides.{nat_tests}
use Rattle.std.proofs.lemmas.List.{take_all}
use Rattle.std.proofs.lemmas.List.Folds.{list_any_at}
use Rattle.task_types.specs.Sets.{are_several}

same_out : (m n : ℕ) → not (m == n) ≡ false → m ≡ n
same_out m n e = grind (arith, nat_tests)

or_out : (a b : Bool) → (a || b) ≡ false → (a ≡ false) × (b ≡ false)
or_out true b e = cc
or_out false b e = (refl, e)

-- a test that fails at x fails at each of a list in which nothing differs from x
fails_at_all : (x : ℕ) (p : ℕ → Bool) → p x ≡ false → (ys : List ℕ) → list_any (λ y. not (y == x)) ys ≡ false → list_any p ys ≡ false
fails_at_all x p f [] e = refl
fails_at_all x p f (y ∷ ys) e =
    let out : (not (y == x) ≡ false) × (list_any (λ y. not (y == x)) ys ≡ false) = or_out (not (y == x)) (list_any (λ y. not (y == x)) ys) e in
    let here : p y ≡ false = ap p (same_out y x out.0) ∙ f in
    rw here (fails_at_all x p f ys out.1)

pub several-same : (x : ℕ) (ys : List ℕ) → list_any (λ y. not (y == x)) ys ≡ false → are_several (x ∷ ys) ≡ false
several-same x ys e = fails_at_all x (λ z. list_any (λ y. not (y == z)) (x ∷ ys)) here (x ∷ ys) here
  where
    here : list_any (λ y. not (y == x)) (x ∷ ys) ≡ false
    here = rw (eq-eqb x x refl) e

pub several-differs : (x : ℕ) (ys : List ℕ) → list_any (λ y. not (y == x)) ys ≡ true → are_several (x ∷ ys) ≡ true
several-differs x ys e = ap (λ b. b || list_any (λ z. list_any (λ y. not (y == z)) (x ∷ ys)) ys) here
  where
    here : list_any (λ y. not (y == x)) (x ∷ ys) ≡ true
    here = rw (eq-eqb x x refl) e

-- ---- the numbers of some ids

module _ {X : Type 0} (f : X → ℕ) (x : X) (rest xs : List X) (e : xs ≡ x ∷ rest) where
  pub no_other : (i : ℕ) → length rest ≤ i → list_any (λ n. not (n == f x)) (map f (take i rest)) ≡ false → false ≡ are_several (map f xs)
  no_other i h k = sym (ap (λ l. are_several (map f l)) e ∙ several-same (f x) (map f rest) (subst (λ l. list_any (λ n. not (n == f x)) (map f l) ≡ false) (take_all i rest h) k))

  any_mapped : (p : ℕ → Bool) (ys : List X) → list_any p (map f ys) ≡ list_any (λ y. p (f y)) ys
  any_mapped p [] = refl
  any_mapped p (y ∷ ys) = ap (λ b. p (f y) || b) (any_mapped p ys)

  pub an_other : (i : ℕ) (y : X) → i < length rest → y ≡ slice_index_or rest i y → (f y ≡ f x → ⊥) → true ≡ are_several (map f xs)
  an_other i y h at d = sym (ap (λ l. are_several (map f l)) e ∙ several-differs (f x) (map f rest) (any_mapped (λ n. not (n == f x)) rest ∙ list_any_at (λ z. not (f z == f x)) rest i y h (ap (λ z. not (f z == f x)) (sym at) ∙ differs (f y) (f x) d)))
    where
      differs : (m n : ℕ) → (m ≡ n → ⊥) → not (m == n) ≡ true
      differs m n d = grind (arith, nat_tests)
