-- Private: programs over one or two variables, as the tests have them.
use Rattle.std.specs.Prelude.{◌≡◌, ℕ, zero, suc, pos, negsuc, Option, Some, None, Bool, IsTrue, List, [], ◌∷◌, length, map, refl}
use Rattle.std.proofs.Common.{ap, sym, arith}
use Rattle.std.specs.List.{AllByRecursion}
use Rattle.rational.specs.Rational.{ℚ, whole, ◌≤ℚ◌}
use Rattle.rational.proofs.Inequalities.{le_refl, le_from_eq}
use Rattle.rational.proofs.Order.{whole_nonneg}
use Rattle.rational.specs.Rows.{Row}
use Rattle.exact_lin.specs.Forms.{LinearForm, coefficient}
use Rattle.cert_core.specs.Programs.{Program, IsEven}
use Rattle.cert_core.specs.Soft.{SoftProgram, decision_of, IsLawful}

-- a factor and a bound as a row
abbrev pub listed_row : {S : Type 0} → (S → ℚ) → S × S → Row
listed_row value r = record { factors = value r.0 ∷ []; bound = value r.1 }

abbrev pub listed_program : {S : Type 0} → (S → ℚ) → List (S × S) → S → S → Program
listed_program value rows cost base = record { rows = map (listed_row value) rows; costs = value cost ∷ []; base = value base }

each-even : {S : Type 0} (value : S → ℚ) (rows : List (S × S)) → AllByRecursion (λ (r : Row). length r.factors ≡ 1) (map (listed_row value) rows)
each-even value [] = tt
each-even value (r ∷ rows) = (refl, each-even value rows)

pub listed-even : {S : Type 0} (value : S → ℚ) (rows : List (S × S)) (cost base : S) → IsEven (listed_program value rows cost base)
listed-even value rows cost base = record { even = each-even value rows }

-- ---- a program with one term of two ways: 2 ≤ x ≤ 5 at the cost x, and 3 more where the term is paid for; its base is defined where it has one
abbrev pub price : Option ℕ → ℚ
price None = whole (pos 0)
price (Some zero) = whole (pos 0)
price (Some (suc w)) = whole (pos 3)

abbrev pub priced : Bool → SoftProgram
priced has_base = record {
  ways = 2 ∷ [];
  costs = whole (pos 1) ∷ [];
  rows = λ made. record { factors = whole (negsuc 0) ∷ []; bound = whole (negsuc 1) } ∷ record { factors = whole (pos 1) ∷ []; bound = whole (pos 5) } ∷ [];
  base = λ made. price (decision_of made 0);
  CanReckonBase = λ made. IsTrue has_base;
  IsFree = λ x t. ⊥;
  CanTellFree = λ x t. Unit {0};
}

price-grows : (o p : Option ℕ) → ((w : ℕ) → o ≡ Some w → p ≡ Some w) → price o ≤ℚ price p
price-grows None None f = le_refl (whole (pos 0))
price-grows None (Some zero) f = le_refl (whole (pos 0))
price-grows None (Some (suc w)) f = whole_nonneg 3
price-grows (Some w) p f = le_from_eq (price (Some w)) (price p) (ap price (sym (f w refl)))

pub priced-lawful : (has_base : Bool) → IsLawful (priced has_base)
priced-lawful has_base = record {
  two_ways = (omega arith, tt);
  even = λ made d. record { even = (refl, (refl, tt)) };
  rows_grow = λ made more d e m r a. a;
  base_grows = λ made more d e m. price-grows (decision_of made 0) (decision_of more 0) (m 0);
  last_way = λ made t d h n. refl;
  free_stays = λ made t x d h n s f. absurd f;
}

-- ---- rows over two variables, read off forms with the bounds as constants, and the cost x + y
abbrev pub form_row : LinearForm → Row
form_row f = record { factors = coefficient f.terms 0 ∷ coefficient f.terms 1 ∷ []; bound = f.constant }

abbrev pub form_program : List LinearForm → Program
form_program forms = record { rows = map form_row forms; costs = whole (pos 1) ∷ whole (pos 1) ∷ []; base = whole (pos 0) }

each-form_even : (forms : List LinearForm) → AllByRecursion (λ (r : Row). length r.factors ≡ 2) (map form_row forms)
each-form_even [] = tt
each-form_even (f ∷ forms) = (refl, each-form_even forms)

pub form_program-even : (forms : List LinearForm) → IsEven (form_program forms)
form_program-even forms = record { even = each-form_even forms }
