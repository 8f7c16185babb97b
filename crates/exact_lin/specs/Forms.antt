-- Believed: linear forms, what they stand for, how they are reckoned, and where the reckoning is defined.
use Rattle.std.specs.Prelude.{◌≡◌, ℕ, ◌+◌, ◌≤◌, ◌<◌, Bool, List, [], ◌∷◌, ◌++◌, suc, length, take, drop, map, ⊤, nat_eq, if◌then◌else◌, slice_index_or, refl}
use Rattle.std.specs.Ordering.{nat_cmp, match_ordering}
use Rattle.std.specs.Coded.{Coded, code_by, coded×, coded_ℕ, coded_list}
use lib.IntN.{nat_abs}
use Rattle.rational.specs.Rational.{ℚ, zeroℚ, ◌+ℚ◌, ◌*ℚ◌}
use Rattle.exact_lin.specs.Reckoning.{CanAdd, CanMultiply, ℚ_code}

-- terms of a form: the number of an id, and its coefficient
abbrev pub Terms : Type 0
Terms = List (ℕ × ℚ)

-- a constant, and a coefficient for each of some ids
pub record LinearForm : Type 0 where
  pub constant : ℚ
  pub terms : Terms

-- a form is stored as the pair of its constant and its terms
abbrev pub form_code : Coded LinearForm
form_code = code_by (ℚ × Terms) (coded× ℚ_code (coded_list (coded× coded_ℕ ℚ_code))) (λ f. (f.constant, f.terms)) (λ p. record { constant = p.0; terms = p.1 }) (λ _. refl)

-- terms of ids and scalars, by the numbers that these stand for
abbrev pub shown : {V S : Type 0} → (V → ℕ) → (S → ℚ) → List (V × S) → Terms
shown number_of value ts = map (λ t. (number_of t.0, value t.1)) ts

-- ---- what a form is

-- the ids ascend strictly, from `low` or above, and no coefficient is 0
abbrev pub AscendFrom : ℕ → Terms → Type 0
AscendFrom low [] = ⊤
AscendFrom low (t ∷ ts) = low ≤ t.0 × ¬ (t.1 ≡ zeroℚ) × AscendFrom (t.0 + 1) ts

-- the ids ascend strictly, and no coefficient is 0
abbrev pub IsForm : LinearForm → Type 0
IsForm f = AscendFrom 0 f.terms

-- the coefficient of an id; 0 where it has no term
abbrev pub coefficient : Terms → ℕ → ℚ
coefficient [] v = zeroℚ
coefficient (t ∷ ts) v = if nat_eq t.0 v then t.1 else coefficient ts v

-- the sum of the terms where each id v has the value x v
abbrev pub terms_at : Terms → (ℕ → ℚ) → ℚ
terms_at [] x = zeroℚ
terms_at (t ∷ ts) x = t.1 *ℚ x t.0 +ℚ terms_at ts x

-- the linear function that a form stands for, where each id v has the value x v
abbrev pub form_at : LinearForm → (ℕ → ℚ) → ℚ
form_at f x = f.constant +ℚ terms_at f.terms x

-- the values of the ids 0, 1, 2 .. from a list; 0 past its end
abbrev pub values_of : List ℚ → ℕ → ℚ
values_of xs v = slice_index_or xs v zeroℚ

-- the list has a value for each id of the terms
abbrev pub Covers : ℕ → Terms → Type 0
Covers length [] = ⊤
Covers length (t ∷ ts) = t.0 < length × Covers length ts

-- ---- sums of forms

-- the number is 0
abbrev pub is_zero : ℚ → Bool
is_zero q = nat_eq (nat_abs q.num) 0

-- a term before others, left out where its coefficient is 0
abbrev pub with_term : ℕ → ℚ → Terms → Terms
with_term v c ts = if is_zero c then ts else ((v, c) ∷ ts)

-- the terms with c more at the id v
abbrev pub increased : Terms → ℕ → ℚ → Terms
increased [] v c = with_term v c []
increased (t ∷ ts) v c = match_ordering (nat_cmp t.0 v) (t ∷ increased ts v c) (with_term v (t.1 +ℚ c) ts) (with_term v c (t ∷ ts))

-- how many terms, from the first on, have ids below n
abbrev pub place_in : Terms → ℕ → ℕ
place_in [] n = 0
place_in (t ∷ ts) n = match_ordering (nat_cmp t.0 n) (suc (place_in ts n)) 0 0

-- the form without terms
abbrev pub constant_form : ℚ → LinearForm
constant_form c = record { constant = c; terms = [] }

-- the form with c more in its constant
abbrev pub plus_constant : LinearForm → ℚ → LinearForm
plus_constant f c = record { constant = f.constant +ℚ c; terms = f.terms }

-- the form with c more at the id v
abbrev pub plus_term : LinearForm → ℕ → ℚ → LinearForm
plus_term f v c = record { constant = f.constant; terms = increased f.terms v c }

-- the terms with y times each of the other terms added
abbrev pub increased_by : Terms → ℚ → Terms → Terms
increased_by ts y [] = ts
increased_by ts y (u ∷ us) = increased_by (increased ts u.0 (y *ℚ u.1)) y us

-- the form with y times the other form added
abbrev pub plus_scaled : LinearForm → ℚ → LinearForm → LinearForm
plus_scaled f y g = record { constant = f.constant +ℚ y *ℚ g.constant; terms = increased_by f.terms y g.terms }

-- ---- where sums are defined, part by part

-- c can be added at the id v
abbrev pub CanAddTerm : ℕ → LinearForm → ℕ → ℚ → Type 0
CanAddTerm limit f v c = CanAdd limit (coefficient f.terms v) c

-- for each of the other terms, its product with y and the sum with the coefficient of its id are defined
abbrev pub CanAddTerms : ℕ → Terms → ℚ → Terms → Type 0
CanAddTerms limit ts y [] = ⊤
CanAddTerms limit ts y (u ∷ us) = CanMultiply limit y u.1 × CanAdd limit (coefficient ts u.0) (y *ℚ u.1) × CanAddTerms limit ts y us

-- y times the other form can be added: one product and one sum for each of its terms, and for its constant
pub record CanAddScaled (limit : ℕ) (f : LinearForm) (y : ℚ) (g : LinearForm) : Type 0 where
  pub terms : CanAddTerms limit f.terms y g.terms
  pub product : CanMultiply limit y g.constant
  pub constant : CanAdd limit f.constant (y *ℚ g.constant)

-- the terms can be added to a sum one after the other, each a product and a sum
abbrev pub CanSumTerms : ℕ → ℚ → Terms → (ℕ → ℚ) → Type 0
CanSumTerms limit sum [] x = ⊤
CanSumTerms limit sum (t ∷ ts) x = CanMultiply limit t.1 (x t.0) × CanAdd limit sum (t.1 *ℚ x t.0) × CanSumTerms limit (sum +ℚ t.1 *ℚ x t.0) ts x

-- the value can be reckoned: from the constant on, term by term in the order of ids
abbrev pub CanEvaluate : ℕ → LinearForm → (ℕ → ℚ) → Type 0
CanEvaluate limit f x = CanSumTerms limit f.constant f.terms x

-- ---- one term among others

-- the id v has no term, and one for it would stand at the place
pub record IsGap (ts : Terms) (v place : ℕ) : Type 0 where
  pub bound : place ≤ length ts
  pub nothing : coefficient ts v ≡ zeroℚ
  pub increased_there : (c : ℚ) → increased ts v c ≡ take place ts ++ with_term v c (drop place ts)

-- the term of the id v stands at the place and has the coefficient q
pub record IsTerm (ts : Terms) (v place : ℕ) (q : ℚ) : Type 0 where
  pub bound : place < length ts
  pub found : coefficient ts v ≡ q
  pub increased_there : (c : ℚ) → increased ts v c ≡ take place ts ++ with_term v (q +ℚ c) (drop (place + 1) ts)
