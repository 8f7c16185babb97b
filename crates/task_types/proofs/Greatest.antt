-- The greatest of some numbers doesn't depend on their order.
use Rattle.std.proofs.Common.{◌≡◌, refl, ap, ◌∙◌, suc, Bool, true, false, List, [], ◌∷◌, length, arith}
use Rattle.std.specs.Prelude.{IsPermutation, if◌then◌else◌}
use Rattle.rational.specs.Rational.{ℚ, ◌≤ℚ◌}
use Rattle.rational.proofs.Order.{lt_le, le_antisymm}
use Rattle.rational.proofs.Inequalities.{le_trans}
use Rattle.task_types.specs.Tests.{◌≤?◌}
use Rattle.task_types.specs.Cost.{greater, greatest}
use Rattle.task_types.proofs.Comparisons.{le_out, later_out, eq_le}
use Rattle.task_types.proofs.Reordering.{reordered}

le_refl : (q : ℚ) → q ≤ℚ q
le_refl q = eq_le q q refl

first_le : (q r : ℚ) → q ≤ℚ greater q r
first_le q r = go (q ≤? r) refl
  where
    go : (b : Bool) → (q ≤? r) ≡ b → q ≤ℚ (if b then r else q)
    go true e = le_out q r e
    go false e = le_refl q

second_le : (q r : ℚ) → r ≤ℚ greater q r
second_le q r = go (q ≤? r) refl
  where
    go : (b : Bool) → (q ≤? r) ≡ b → r ≤ℚ (if b then r else q)
    go true e = le_refl r
    go false e = lt_le r q (later_out q r e)

greater_le : (q r m : ℚ) → q ≤ℚ m → r ≤ℚ m → greater q r ≤ℚ m
greater_le q r m h k = go (q ≤? r)
  where
    go : (b : Bool) → (if b then r else q) ≤ℚ m
    go true = k
    go false = h

crossed_le : (x y g : ℚ) → greater x (greater y g) ≤ℚ greater y (greater x g)
crossed_le x y g = greater_le x (greater y g) (greater y (greater x g))
    (le_trans x (greater x g) (greater y (greater x g)) (first_le x g) (second_le y (greater x g)))
    (greater_le y g (greater y (greater x g)) (first_le y (greater x g)) (le_trans g (greater x g) (greater y (greater x g)) (second_le x g) (second_le y (greater x g))))

greater_crossed : (x y g : ℚ) → greater x (greater y g) ≡ greater y (greater x g)
greater_crossed x y g = le_antisymm (greater x (greater y g)) (greater y (greater x g)) (crossed_le x y g) (crossed_le y x g)

greater_comm : (x y : ℚ) → greater x y ≡ greater y x
greater_comm x y = le_antisymm (greater x y) (greater y x) (greater_le x y (greater y x) (second_le y x) (first_le y x)) (greater_le y x (greater x y) (second_le x y) (first_le x y))

greatest_crossed : (x y : ℚ) (zs : List ℚ) → greatest (x ∷ y ∷ zs) ≡ greatest (y ∷ x ∷ zs)
greatest_crossed x y [] = greater_comm x y
greatest_crossed x y (z ∷ zs) = greater_crossed x y (greatest (z ∷ zs))

greatest_under : (x : ℚ) (xs ys : List ℚ) → length xs ≡ length ys → greatest xs ≡ greatest ys → greatest (x ∷ xs) ≡ greatest (x ∷ ys)
greatest_under x [] [] e h = refl
greatest_under x [] (y ∷ ys) e h = absurd (omega arith)
greatest_under x (z ∷ zs) [] e h = absurd (omega arith)
greatest_under x (z ∷ zs) (y ∷ ys) e h = ap (greater x) h

pub greatest_reordered : (xs ys : List ℚ) → IsPermutation xs ys → greatest xs ≡ greatest ys
greatest_reordered xs ys p = (reordered (λ xs ys. (length xs ≡ length ys) × (greatest xs ≡ greatest ys)) (λ xs. (refl, refl)) (λ xs ys zs h k. (h.0 ∙ k.0, h.1 ∙ k.1))
    (λ x xs ys h. (ap suc h.0, greatest_under x xs ys h.0 h.1)) (λ x y zs. (refl, greatest_crossed x y zs)) xs ys p).1
