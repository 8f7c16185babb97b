-- Believed: the sums, products and values of forms by which numbers are reckoned, where they are defined, and the first place where one isn't.
use Rattle.std.specs.Prelude.{ℕ, List, [], ◌∷◌, ◌++◌, map}
use Rattle.std.specs.List.{AllByRecursion}
use Rattle.rational.specs.Rational.{ℚ, ◌+ℚ◌, ◌*ℚ◌}
use Rattle.basics.specs.Duties.{Duty, AllMet, IsFirstUnmet}
use Rattle.exact_lin.specs.Reckoning.{CanAdd, CanMultiply}
use Rattle.exact_lin.specs.Forms.{LinearForm, form_at, CanEvaluate}

-- a sum or a product of two exact numbers, or the value of a form where each id v has the value point v
pub data Reckoning : Type 0 where
  Sum : (q r : ℚ) → Reckoning
  Product : (q r : ℚ) → Reckoning
  Value : (form : LinearForm) (point : ℕ → ℚ) → Reckoning

-- no part of the reckoning is past the limit
abbrev pub IsDefined : ℕ → Reckoning → Type 0
IsDefined limit (Sum q r) = CanAdd limit q r
IsDefined limit (Product q r) = CanMultiply limit q r
IsDefined limit (Value form point) = CanEvaluate limit form point

-- what the reckoning gives, exactly
abbrev pub outcome : Reckoning → ℚ
outcome (Sum q r) = q +ℚ r
outcome (Product q r) = q *ℚ r
outcome (Value form point) = form_at form point

-- each of the reckonings is defined
abbrev pub AreDefined : ℕ → List Reckoning → Type 0
AreDefined limit rs = AllByRecursion (IsDefined limit) rs

-- ---- sums of several numbers, from a start on

-- numbers added one by one
abbrev pub sums : ℚ → List ℚ → List Reckoning
sums start [] = []
sums start (r ∷ rs) = Sum start r ∷ sums (start +ℚ r) rs

-- y a added: the product, then the sum
abbrev pub product_sum : ℚ → ℚ → ℚ → List Reckoning
product_sum start y a = Product y a ∷ Sum start (y *ℚ a) ∷ []

-- products added one by one
abbrev pub product_sums : ℚ → List (ℚ × ℚ) → List Reckoning
product_sums start [] = []
product_sums start (t ∷ ts) = product_sum start t.0 t.1 ++ product_sums (start +ℚ t.0 *ℚ t.1) ts

-- what comes of it: start + y₁ a₁ + y₂ a₂ + ..
abbrev pub sum_of_products : ℚ → List (ℚ × ℚ) → ℚ
sum_of_products start [] = start
sum_of_products start (t ∷ ts) = sum_of_products (start +ℚ t.0 *ℚ t.1) ts

-- ---- places, each with what is reckoned there, in order

-- what is reckoned at a place has to be defined; the fault is the place
abbrev pub place_duties : {P : Type 0} → ℕ → List (P × List Reckoning) → List (Duty P)
place_duties limit places = map (λ p. record { fault = p.0; Met = AreDefined limit p.1 }) places

-- everything at every place is defined
abbrev pub AllDefined : {P : Type 0} → ℕ → List (P × List Reckoning) → Type 0
AllDefined limit places = AllMet (place_duties limit places)

-- the first place at which not everything is defined
abbrev pub IsFirstUndefined : {P : Type 0} → ℕ → List (P × List Reckoning) → P → Type 0
IsFirstUndefined limit places p = IsFirstUnmet (place_duties limit places) p
