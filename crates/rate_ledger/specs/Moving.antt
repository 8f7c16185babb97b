-- Private: forms moved to a time, and forms with a duration, as the functions inside make them.
use Rattle.std.specs.Prelude.{ℕ, ◌==◌, Bool, true, false, Option, Some, None, List, [], ◌∷◌}
use Rattle.rational.specs.Rational.{ℚ, neg_ℚ}
use Rattle.exact_lin.specs.Reckoning.{wide_limit}
use Rattle.exact_lin.specs.Forms.{LinearForm, constant_form, plus_term, CanAddTerm}
use Rattle.rate_ledger.specs.declared.changes.Change.{Change}

-- what was changed, moved to the time of a variable
abbrev pub moved_form : Change → ℕ → LinearForm
moved_form c v = plus_term (plus_term c.form v c.rate) c.step (neg_ℚ c.rate)

abbrev pub CanMove : Change → ℕ → Type 0
CanMove c v = CanAddTerm wide_limit c.form v c.rate × CanAddTerm wide_limit (plus_term c.form v c.rate) c.step (neg_ℚ c.rate)

-- what was changed at step k itself, or moved to it
abbrev pub left_form : Bool → Change → ℕ → LinearForm
left_form true c k = c.form
left_form false c k = moved_form c k

abbrev pub CanLeave : Bool → Change → ℕ → Type 0
CanLeave true c k = Unit {0}
CanLeave false c k = CanMove c k

-- a form with a factor times the time between two variables
abbrev pub spanned_form : LinearForm → ℚ → List (ℕ × ℕ) → LinearForm
spanned_form form d [] = form
spanned_form form d (s ∷ rest) = plus_term (plus_term form s.1 d) s.0 (neg_ℚ d)

abbrev pub CanSpan : LinearForm → ℚ → List (ℕ × ℕ) → Type 0
CanSpan form d [] = Unit {0}
CanSpan form d (s ∷ rest) = CanAddTerm wide_limit form s.1 d × CanAddTerm wide_limit (plus_term form s.1 d) s.0 (neg_ℚ d)

-- ---- what the last change of a fluent tells, if there is one; q is what the fluent has at first

abbrev pub form_before : ℚ → Option Change → ℕ → LinearForm
form_before q None k = constant_form q
form_before q (Some c) k = moved_form c k

abbrev pub CanTellBefore : Option Change → ℕ → Type 0
CanTellBefore None k = Unit {0}
CanTellBefore (Some c) k = CanMove c k

abbrev pub form_after : ℚ → Option Change → ℕ → LinearForm
form_after q None k = constant_form q
form_after q (Some c) k = left_form (c.step == k) c k

abbrev pub CanTellAfter : Option Change → ℕ → Type 0
CanTellAfter None k = Unit {0}
CanTellAfter (Some c) k = CanLeave (c.step == k) c k

abbrev pub form_end : ℚ → Option Change → LinearForm
form_end q None = constant_form q
form_end q (Some c) = c.form
