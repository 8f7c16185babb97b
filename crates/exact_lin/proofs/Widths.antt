-- A fraction of 128 bits whose parts fit 64.
use Rattle.std.proofs.Common.{◌≡◌, ℕ, ◌≤◌, sym, ◌∙◌, ap, subst, arith, ℤ}
use Rattle.std.proofs.Math.IntN.{nat_abs}
use Rattle.std.proofs.Common.{leb}
use Rattle.std.specs.Prelude.{◌↔◌, IsTrue}
use Rattle.std.proofs.lemmas.Bool.Decides.{nat_tests}
use mir.Val.{Fits as FitsWidth, SFits, to_z, of_z}
use mir.Syntax.{w64}
use mir.Facts.{to_z-of_z}
use Rattle.rational.specs.Rational.{ℚ, ratio}
use Rattle.exact_lin.specs.Reckoning.{wide_limit, narrow_limit, IsFraction, Fits}
use Rattle.exact_lin.proofs.Parts.{narrow, back, back-num, num-is, den-is}

module _ (n : ℤ) (d : ℕ) (q : ℚ) (i : IsFraction wide_limit n d) (v : ratio n d ≡ q) where
  pub fits-parts : (limit : ℕ) → nat_abs (back n) ≤ limit → d ≤ limit → Fits limit q
  fits-parts limit h k = record { numerator = subst (λ (z : ℤ). nat_abs z ≤ limit) (back-num n d q i v) h; denominator = subst (λ (m : ℕ). m ≤ limit) (den-is n d q i v) k }

  pub numerator-small : (limit : ℕ) → Fits limit q → nat_abs (back n) ≤ limit
  numerator-small limit f = subst (λ (z : ℤ). nat_abs z ≤ limit) (sym (back-num n d q i v)) f.numerator

  pub denominator-small : (limit : ℕ) → Fits limit q → d ≤ limit
  denominator-small limit f = subst (λ (m : ℕ). m ≤ limit) (sym (den-is n d q i v)) f.denominator

  module _ (f : Fits narrow_limit q) where
    pub numerator-fits : SFits w64 (back n)
    numerator-fits = narrow.holds (back n) (numerator-small narrow_limit f)

    pub denominator-fits : FitsWidth w64 d
    denominator-fits = record { fits = omega (arith, denominator-small narrow_limit f) }

    back-narrow : to_z w64 (of_z w64 (back n)) ≡ n
    back-narrow = to_z-of_z numerator-fits ∙ back-num n d q i v ∙ sym (num-is n d q i v)

    pub narrowed-fraction : IsFraction narrow_limit (to_z w64 (of_z w64 (back n))) d
    narrowed-fraction = subst (λ (z : ℤ). IsFraction narrow_limit z d) (sym back-narrow)
        (record { lowest = i.lowest; numerator = subst (λ (z : ℤ). nat_abs z ≤ narrow_limit) (sym (num-is n d q i v)) f.numerator; denominator = denominator-small narrow_limit f })

    pub narrowed-is : ratio (to_z w64 (of_z w64 (back n))) d ≡ q
    narrowed-is = ap (λ (z : ℤ). ratio z d) back-narrow ∙ v

pub leb-le : (m n : ℕ) → IsTrue (leb m n) ↔ (m ≤ n)
leb-le m n = (λ t. grind (arith, nat_tests), λ h. grind (arith, nat_tests))
