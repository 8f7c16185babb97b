-- Private: proofs that `gcd` is the greatest common divisor, and of what has nothing in common.
use Rattle.std.proofs.Common.{◌≡◌, ℕ, zero, suc, ◌*◌, ◌/◌, ◌%◌, ◌<◌, ◌≤◌, refl, sym, subst, arith}
use Rattle.std.proofs.lemmas.Nat.Gcd.{IsGcd-from_zero, IsGcd-from_mod, IsGcd-swap, same_from_IsGcd}
use Rattle.std.specs.Int.{IsGcd}
use Prim.Native.Nat.{◌∣◌}
use native.Mathlib.Nat.{mod-lt, dvd-mul_right, dvd-mul_left, dvd-zero, one-mul, div-mul_cancel, dvd_trans, one-dvd, dvd_antisymm, mul-dvd-mul_right, dvd_of_mul-dvd-mul_right, pos_of_dvd_of_pos}
use Rattle.rational.specs.Gcd.{gcd, gcd_steps}

gcd_steps-is : (k a b : ℕ) → b ≤ k → IsGcd a b (gcd_steps k a b)
gcd_steps-is zero a b h = IsGcd-from_zero a b (omega arith)
gcd_steps-is (suc k) a zero h = IsGcd-from_zero a zero refl
gcd_steps-is (suc k) a (suc b) h = IsGcd-from_mod a (suc b) (gcd_steps k (suc b) (a % suc b)) (gcd_steps-is k (suc b) (a % suc b) (small b k (a % suc b) (mod-lt a (pos_suc b)) h))
  where
    small : (b k r : ℕ) → r < suc b → suc b ≤ suc k → r ≤ k
    small b k r h g = omega arith

    pos_suc : (b : ℕ) → 0 < suc b
    pos_suc b = omega arith

pub gcd-is : (a b : ℕ) → IsGcd a b (gcd a b)
unfolding gcd
gcd-is a b = gcd_steps-is b a b (omega arith)

pub gcd-from-is : (a b g : ℕ) → IsGcd a b g → gcd a b ≡ g
gcd-from-is a b g h = same_from_IsGcd a b (gcd a b) g (gcd-is a b) h

pub gcd_pos : (a b : ℕ) → 0 < b → 0 < gcd a b
gcd_pos a b h = pos_of_dvd_of_pos (gcd-is a b).1 h

times-below : (a b g c t : ℕ) → 0 < c → IsGcd a b g → t * c ≡ gcd (a * c) (b * c) → gcd (a * c) (b * c) ∣ g * c
times-below a b g c t h i is = subst (λ (n : ℕ). n ∣ g * c) is (mul-dvd-mul_right t (i.2 t t-a t-b) c)
  where
    t-a : t ∣ a
    t-a = dvd_of_mul-dvd-mul_right t h (subst (λ (n : ℕ). n ∣ a * c) (sym is) (gcd-is (a * c) (b * c)).0)

    t-b : t ∣ b
    t-b = dvd_of_mul-dvd-mul_right t h (subst (λ (n : ℕ). n ∣ b * c) (sym is) (gcd-is (a * c) (b * c)).1)

-- a common factor comes out
IsGcd-times : (a b g c : ℕ) → 0 < c → IsGcd a b g → IsGcd (a * c) (b * c) (g * c)
IsGcd-times a b g c h i = (mul-dvd-mul_right g i.0 c, mul-dvd-mul_right g i.1 c, λ d p q. dvd_trans d (all.2 d p q) (times-below a b g c (gcd (a * c) (b * c) / c) h i (div-mul_cancel c (all.2 c (dvd-mul_left c a) (dvd-mul_left c b)))))
  where
    all : IsGcd (a * c) (b * c) (gcd (a * c) (b * c))
    all = gcd-is (a * c) (b * c)

-- what divides a product and has nothing in common with one factor divides the other
pub gauss : (a b c : ℕ) → IsGcd a b 1 → a ∣ b * c → a ∣ c
gauss a b zero i h = dvd-zero a
gauss a b (suc c) i h = subst (λ (n : ℕ). a ∣ n) (one-mul (suc c)) ((IsGcd-times a b 1 (suc c) (omega arith) i).2 a (dvd-mul_right a (suc c)) h)

-- both numbers divided by their greatest common divisor have nothing in common
pub lowest : (a b g : ℕ) → 0 < g → IsGcd a b g → IsGcd (a / g) (b / g) 1
lowest a b g h i = (one-dvd (a / g), one-dvd (b / g), λ d p q. dvd_of_mul-dvd-mul_right d h (subst (λ (n : ℕ). d * g ∣ n) (sym (one-mul g)) (i.2 (d * g) (subst (λ (n : ℕ). d * g ∣ n) (div-mul_cancel g i.0) (mul-dvd-mul_right d p g)) (subst (λ (n : ℕ). d * g ∣ n) (div-mul_cancel g i.1) (mul-dvd-mul_right d q g)))))

-- equal fractions in lowest terms have one denominator
pub same_denominator : (a b c d : ℕ) → IsGcd a b 1 → IsGcd c d 1 → a * d ≡ c * b → b ≡ d
same_denominator a b c d i j e = dvd_antisymm
    (gauss b a d (IsGcd-swap a b 1 i) (subst (λ (n : ℕ). b ∣ n) (sym e) (dvd-mul_left b c)))
    (gauss d c b (IsGcd-swap c d 1 j) (subst (λ (n : ℕ). d ∣ n) e (dvd-mul_left d a)))
