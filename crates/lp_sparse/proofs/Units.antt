-- Products with 1 and with -1, which are defined where the other factor keeps to the limit.
use Rattle.std.proofs.Common.{◌≡◌, ℕ, sym, ap, subst, ◌∙◌, pos, negsuc}
use Rattle.rational.specs.Rational.{ℚ, whole, neg_ℚ, ◌*ℚ◌}
use Rattle.rational.proofs.Field.{one_mul, neg_is_times}
use Rattle.exact_lin.specs.Reckoning.{Fits, CanMultiply}
use Rattle.exact_lin.proofs.Results.{product-fits}

-- a product that is this number, which keeps to the limit
by_result : (limit : ℕ) (y x out : ℚ) → y *ℚ x ≡ out → Fits limit out → CanMultiply limit y x × (out ≡ y *ℚ x)
by_result limit y x out e f = (product-fits limit y x (subst (Fits limit) (sym e) f), sym e)

pub times_one : (limit : ℕ) (y x out : ℚ) → y ≡ whole (pos 1) → out ≡ x → Fits limit out → CanMultiply limit y x × (out ≡ y *ℚ x)
times_one limit y x out e o f = by_result limit y x out (ap (λ (z : ℚ). z *ℚ x) e ∙ one_mul x ∙ sym o) f

pub times_minus_one : (limit : ℕ) (y x out : ℚ) → y ≡ whole (negsuc 0) → out ≡ neg_ℚ x → Fits limit out → CanMultiply limit y x × (out ≡ y *ℚ x)
times_minus_one limit y x out e o f = by_result limit y x out (ap (λ (z : ℚ). z *ℚ x) e ∙ sym (neg_is_times x) ∙ sym o) f
