-- The parts of a fraction as its number's parts, and the fractions that calls make.
use Rattle.std.proofs.Common.{◌≡◌, ℕ, ◌≤◌, sym, ◌∙◌, ap, ap₂, subst, arith, Bool, ◌&&◌, int_eq, nat_eq}
use Rattle.std.proofs.Math.IntN.{ℤ, pos, negsuc, ◌*ℤ◌, nat_abs}
use Rattle.std.proofs.lemmas.Int.{ints}
use Rattle.std.specs.Ordering.{int_cmp}
use Rattle.std.specs.declared.cmp.Ordering.{Ordering}
use native.Mathlib.Nat.{div-le_self}
use mir.Val.{SFits, to_z, of_z}
use mir.Syntax.{Width, w64, w128}
use mir.Facts.{to_z-of_z}
use Rattle.rational.specs.Lowest.{over, abs-over}
use Rattle.rational.specs.Rational.{ℚ, ratio, ◌+ℚ◌, ◌*ℚ◌, cmp_ℚ}
use Rattle.rational.proofs.Fractions.{ratio-num, ratio-den}
use Rattle.exact_lin.specs.Reckoning.{wide_limit, narrow_limit, IsFraction, Within, SumFits, sum_numerator, sum_denominator, ProductFits, product_numerator, product_denominator, CanAdd, CanMultiply, both_terms, shared_factor}
use Rattle.exact_lin.proofs.Sum.{sum-lowest, sum-value}
use Rattle.exact_lin.proofs.Product.{product-lowest, product-value}

-- the size of a fraction's parts: a machine width, and the largest part
pub record PartSize : Type 0 where
  pub width : Width
  pub limit : ℕ
  pub holds : (z : ℤ) → Within limit z → SFits width z

pub within-wide : (z : ℤ) → Within wide_limit z → SFits w128 z
within-wide (pos n) h = record { sfits = omega arith }
within-wide (negsuc n) h = record { sfits = omega arith }

pub within-narrow : (z : ℤ) → Within narrow_limit z → SFits w64 z
within-narrow (pos n) h = record { sfits = omega arith }
within-narrow (negsuc n) h = record { sfits = omega arith }

abbrev pub wide : PartSize
wide = record { width = w128; limit = wide_limit; holds = within-wide }

abbrev pub narrow : PartSize
narrow = record { width = w64; limit = narrow_limit; holds = within-narrow }

-- a signed number of this width, as it stands in a goal
abbrev pub back_at : PartSize → ℤ → ℤ
back_at s z = to_z s.width (of_z s.width z)

-- the same in 128 bits
abbrev pub back : ℤ → ℤ
back z = back_at wide z

-- an unsigned number as a signed one of 128 bits
pub back-unsigned : (d : ℕ) → d ≤ wide_limit → to_z w128 d ≡ pos d
back-unsigned d h = omega (arith, ints)

pub back_at-is : (s : PartSize) (z : ℤ) → Within s.limit z → back_at s z ≡ z
back_at-is s z h = to_z-of_z (s.holds z h)

pub back-is : (z : ℤ) → Within wide_limit z → back z ≡ z
back-is z h = back_at-is wide z h

pub num-is : {limit : ℕ} (n : ℤ) (d : ℕ) (q : ℚ) → IsFraction limit n d → ratio n d ≡ q → n ≡ q.num
num-is n d q i e = sym (ratio-num n d i.lowest) ∙ ap (λ (x : ℚ). x.num) e

pub den-is : {limit : ℕ} (n : ℤ) (d : ℕ) (q : ℚ) → IsFraction limit n d → ratio n d ≡ q → d ≡ q.den
den-is n d q i e = sym (ratio-den n d i.lowest) ∙ ap (λ (x : ℚ). x.den) e

pub back_at-num : (s : PartSize) (n : ℤ) (d : ℕ) (q : ℚ) → IsFraction s.limit n d → ratio n d ≡ q → back_at s n ≡ q.num
back_at-num s n d q i e = back_at-is s n i.numerator ∙ num-is n d q i e

pub back-num : (n : ℤ) (d : ℕ) (q : ℚ) → IsFraction wide_limit n d → ratio n d ≡ q → back n ≡ q.num
back-num n d q i e = back_at-num wide n d q i e

-- a fraction that a call made from x and k
pub record Made (s : PartSize) (x : ℤ) (k : ℕ) (fits : Type 0) (value : ℚ) : Type 0 where
  pub inside : IsFraction s.limit (back_at s x) k
  pub fit : fits
  pub is : ratio (back_at s x) k ≡ value

pub made : (s : PartSize) (x t : ℤ) (k b : ℕ) (fits : Type 0) (v : ℚ) → x ≡ t → k ≡ b → IsFraction s.limit t b → ratio t b ≡ v → fits → Made s x k fits v
made s x t k b fits v e f i r h = record {
  inside = subst (λ z. IsFraction s.limit z k) (sym back-t) (subst (λ (n : ℕ). IsFraction s.limit t n) (sym f) i);
  fit = h;
  is = ap₂ ratio back-t f ∙ r;
}
  where
    back-t : back_at s x ≡ t
    back-t = ap (back_at s) e ∙ back_at-is s t i.numerator

pub over-within : (limit : ℕ) (n : ℤ) (g : ℕ) → Within limit n → Within limit (over n g)
over-within limit n g s = omega (arith, abs-over n g, div-le_self (nat_abs n) g)

module _ (s : PartSize) (n m : ℤ) (d e : ℕ) (q r : ℚ) (i : IsFraction s.limit n d) (v : ratio n d ≡ q) (j : IsFraction s.limit m e) (w : ratio m e ≡ r) where
  -- what is said of the parts is said of the numbers
  pub at_values : (P : ℤ → ℕ → ℤ → ℕ → Type 0) → P (back_at s n) d (back_at s m) e → P q.num q.den r.num r.den
  at_values P h = subst (λ x. P x q.den r.num r.den) (back_at-num s n d q i v) (subst (λ (x : ℕ). P (back_at s n) x r.num r.den) (den-is n d q i v)
      (subst (λ x. P (back_at s n) d x r.den) (back_at-num s m e r j w) (subst (λ (x : ℕ). P (back_at s n) d (back_at s m) x) (den-is m e r j w) h)))

  pub at_parts : (P : ℤ → ℕ → ℤ → ℕ → Type 0) → P q.num q.den r.num r.den → P (back_at s n) d (back_at s m) e
  at_parts P h = subst (λ x. P x d (back_at s m) e) (sym (back_at-num s n d q i v)) (subst (λ (x : ℕ). P q.num x (back_at s m) e) (sym (den-is n d q i v))
      (subst (λ x. P q.num q.den x e) (sym (back_at-num s m e r j w)) (subst (λ (x : ℕ). P q.num q.den r.num x) (sym (den-is m e r j w)) h)))

  pub product-made : (x : ℤ) (k : ℕ) → ProductFits s.limit (back_at s n) d (back_at s m) e → x ≡ product_numerator (back_at s n) d (back_at s m) e → k ≡ product_denominator (back_at s n) d (back_at s m) e → Made s x k (CanMultiply s.limit q r) (q *ℚ r)
  product-made x k h f g = let p = at_values (ProductFits s.limit) h in
      made s x _ k _ _ _ (at_values (λ a b c d. x ≡ product_numerator a b c d) f) (at_values (λ a b c d. k ≡ product_denominator a b c d) g)
      (record { lowest = product-lowest q r; numerator = p.numerator; denominator = p.denominator }) (product-value q r) p

  pub sum-made : (x : ℤ) (k : ℕ) → SumFits s.limit (back_at s n) d (back_at s m) e → x ≡ sum_numerator (back_at s n) d (back_at s m) e → k ≡ sum_denominator (back_at s n) d (back_at s m) e → Made s x k (CanAdd s.limit q r) (q +ℚ r)
  sum-made x k h f g = let p = at_values (SumFits s.limit) h in
      made s x _ k _ _ _ (at_values (λ a b c d. x ≡ sum_numerator a b c d) f) (at_values (λ a b c d. k ≡ sum_denominator a b c d) g)
      (record { lowest = sum-lowest q r; numerator = small-top p.both; denominator = p.denominator }) (sum-value q r) p
    where
      small-top : Within s.limit (both_terms q.num q.den r.num r.den) → Within s.limit (sum_numerator q.num q.den r.num r.den)
      small-top h = over-within s.limit (both_terms q.num q.den r.num r.den) (shared_factor q.num q.den r.num r.den) h

  pub cmp-made : (o : Ordering) → o ≡ int_cmp (back_at s n *ℤ pos e) (back_at s m *ℤ pos d) → o ≡ cmp_ℚ q r
  unfolding cmp_ℚ
  cmp-made o h = at_values (λ a b c d. o ≡ int_cmp (a *ℤ pos d) (c *ℤ pos b)) h

-- what the derived `==` says
pub eq-made : {limit : ℕ} (n m : ℤ) (d e : ℕ) (q r : ℚ) → IsFraction limit n d → ratio n d ≡ q → IsFraction limit m e → ratio m e ≡ r → (o p : Bool) → p ≡ int_eq n m → o ≡ (p && nat_eq d e) → o ≡ (int_eq q.num r.num && nat_eq q.den r.den)
eq-made n m d e q r i v j w o p f g = g ∙ ap₂ ◌&&◌ (f ∙ ap₂ int_eq (num-is n d q i v) (num-is m e r j w)) (ap₂ nat_eq (den-is n d q i v) (den-is m e r j w))
