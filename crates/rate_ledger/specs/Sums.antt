-- Believed: linear forms as they are made, sum by sum: which form comes out, and whether every reckoning on the way is
-- defined.
use Rattle.std.specs.Prelude.{ℕ, fold}
use Rattle.rational.specs.Rational.{ℚ}
use Rattle.exact_lin.specs.Reckoning.{wide_limit, CanAdd}
use Rattle.exact_lin.specs.Forms.{LinearForm, form_at, constant_form, plus_constant, plus_term, plus_scaled, CanAddTerm, CanAddScaled}

-- a form, made from a number by adding numbers, terms and multiples of forms that are made themselves
pub data FormSum : Type 0 where
  Number : (q : ℚ) → FormSum
  PlusNumber : (sum : FormSum) (q : ℚ) → FormSum
  PlusTerm : (sum : FormSum) (v : ℕ) (q : ℚ) → FormSum
  PlusScaled : (sum : FormSum) (q : ℚ) (other : FormSum) → FormSum

-- the form that comes out
abbrev pub form_of : FormSum → LinearForm
form_of (Number q) = constant_form q
form_of (PlusNumber sum q) = plus_constant (form_of sum) q
form_of (PlusTerm sum v q) = plus_term (form_of sum) v q
form_of (PlusScaled sum q other) = plus_scaled (form_of sum) q (form_of other)

-- every reckoning on the way is defined
abbrev pub CanMake : FormSum → Type 0
CanMake (Number q) = Unit {0}
CanMake (PlusNumber sum q) = CanMake sum × CanAdd wide_limit (form_of sum).constant q
CanMake (PlusTerm sum v q) = CanMake sum × CanAddTerm wide_limit (form_of sum) v q
CanMake (PlusScaled sum q other) = CanMake sum × CanMake other × CanAddScaled wide_limit (form_of sum) q (form_of other)

-- A form over fluents is put into the forms of their values: from its constant on, one multiple for each term.
abbrev pub put : (ℕ → FormSum) → LinearForm → FormSum
put values form = fold (λ sum t. PlusScaled sum t.1 (values t.0)) (Number form.constant) form.terms

-- the number that a sum comes to where each variable v has the value x v
abbrev pub sum_at : FormSum → (ℕ → ℚ) → ℚ
sum_at sum x = form_at (form_of sum) x
