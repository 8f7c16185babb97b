-- Forms as they are made.
use Rattle.std.proofs.Common.{◌≡◌, sym, ap, subst, ◌∙◌, Result, Ok, Err}
use Rattle.std.specs.Prelude.{OnOk, OnErr}
use Rattle.rational.specs.Rational.{ℚ, zeroℚ}
use Rattle.rational.proofs.Field.{zero_add}
use Rattle.exact_lin.specs.Reckoning.{wide_limit, Fits, CanAdd}
use Rattle.exact_lin.specs.Forms.{LinearForm, constant_form, plus_constant}
use Rattle.exact_lin.proofs.Results.{CanAdd-zero}

-- a number that keeps to the limit can be added to the form 0
pub constant_made : {A E : Type 0} (r : Result A E) (q : ℚ) (before after : LinearForm) → Fits wide_limit q → before ≡ constant_form zeroℚ
    → OnOk r (after ≡ plus_constant before q) → OnErr r (¬ CanAdd wide_limit before.constant q) → after ≡ constant_form q
constant_made (Ok x) q before after f b o e = o ∙ ap (λ (form : LinearForm). plus_constant form q) b ∙ ap constant_form (zero_add q)
constant_made (Err x) q before after f b o e = absurd (e (subst (λ (form : LinearForm). CanAdd wide_limit form.constant q) (sym b) (CanAdd-zero wide_limit q f)))
