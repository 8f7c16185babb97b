-- Believed: fractions in lowest terms, and the quotient that brings a fraction to them.
use Rattle.std.proofs.Common.{◌≡◌, ℕ, zero, suc, ◌*◌, ◌/◌, ◌<◌, refl, sym, ap, subst, arith, Bool, true, false, ◌&&◌, T, ltb, eqb, lt→ltb, ltb→lt, eqb→eq, eq-eqb}
use Rattle.std.proofs.Math.IntN.{ℤ, pos, negsuc, ◌*ℤ◌, neg_ℤ, nat_abs}
use Rattle.std.specs.Int.{IsGcd}
use native.Mathlib.Nat.{div-mul_cancel}
use borrow.Author.Differences.{same_in, product_is, neg_is}
use Rattle.rational.specs.Gcd.{gcd}
use Rattle.rational.specs.Divisors.{gcd-is, gcd_pos, gcd-from-is, lowest}

-- the quotient n / g, the sign kept; used where g divides n
abbrev pub over : ℤ → ℕ → ℤ
over (pos n) g = pos (n / g)
over (negsuc n) g = neg_ℤ (pos (suc n / g))

-- n / d is in lowest terms: d is above 0, and nothing but 1 divides both
abbrev pub is_lowest : ℤ → ℕ → Bool
is_lowest n d = ltb 0 d && eqb (gcd (nat_abs n) d) 1

both : (a b : Bool) → T (a && b) → T a × T b
both true b h = (tt, h)
both false b h = absurd h

both_in : (a b : Bool) → T a → T b → T (a && b)
both_in true b h g = g
both_in false b h g = absurd h

pub lowest_out : (n : ℤ) (d : ℕ) → T (is_lowest n d) → (0 < d) × IsGcd (nat_abs n) d 1
lowest_out n d t = (ltb→lt 0 d (both (ltb 0 d) (eqb (gcd (nat_abs n) d) 1) t).0, subst (λ (g : ℕ). IsGcd (nat_abs n) d g) (eqb→eq (gcd (nat_abs n) d) 1 (both (ltb 0 d) (eqb (gcd (nat_abs n) d) 1) t).1) (gcd-is (nat_abs n) d))

pub lowest_in : (n : ℤ) (d : ℕ) → 0 < d → IsGcd (nat_abs n) d 1 → T (is_lowest n d)
lowest_in n d h i = both_in (ltb 0 d) (eqb (gcd (nat_abs n) d) 1) (lt→ltb 0 d h) (subst T (sym (eq-eqb (gcd (nat_abs n) d) 1 (gcd-from-is (nat_abs n) d 1 i))) tt)

abs-neg : (n : ℕ) → nat_abs (neg_ℤ (pos n)) ≡ n
abs-neg zero = refl
abs-neg (suc n) = refl

pub abs-over : (n : ℤ) (g : ℕ) → nat_abs (over n g) ≡ nat_abs n / g
abs-over (pos n) g = refl
abs-over (negsuc n) g = abs-neg (suc n / g)

pub divided-is_lowest : (n : ℤ) (d : ℕ) → 0 < d → T (is_lowest (over n (gcd (nat_abs n) d)) (d / gcd (nat_abs n) d))
divided-is_lowest n d h = lowest_in (over n g) (d / g) positive (subst (λ (m : ℕ). IsGcd m (d / g) 1) (sym (abs-over n g)) (lowest (nat_abs n) d g (gcd_pos (nat_abs n) d h) (gcd-is (nat_abs n) d)))
  where
    g : ℕ
    g = gcd (nat_abs n) d

    nonzero : (q : ℕ) → q * gcd (nat_abs n) d ≡ d → 0 < d → 0 < q
    nonzero zero e k = absurd (omega arith)
    nonzero (suc q) e k = omega arith

    positive : 0 < d / gcd (nat_abs n) d
    positive = nonzero (d / gcd (nat_abs n) d) (div-mul_cancel (gcd (nat_abs n) d) (gcd-is (nat_abs n) d).1) h

pub over-times : (n : ℤ) (d : ℕ) → over n (gcd (nat_abs n) d) *ℤ pos (gcd (nat_abs n) d) ≡ n
over-times n d = go n (gcd (nat_abs n) d) (div-mul_cancel (gcd (nat_abs n) d) (gcd-is (nat_abs n) d).0)
  where
    go : (m : ℤ) (g : ℕ) → nat_abs m / g * g ≡ nat_abs m → over m g *ℤ pos g ≡ m
    go (pos k) g e = ap pos e
    go (negsuc k) g e = same_in (neg_ℤ (pos (suc k / g)) *ℤ pos g) (negsuc k) (omega (arith, product_is (neg_ℤ (pos (suc k / g))) (pos g), neg_is (pos (suc k / g)), ap (λ (x : ℕ). x * g) (neg_is (pos (suc k / g))).0, ap (λ (x : ℕ). x * g) (neg_is (pos (suc k / g))).1))
