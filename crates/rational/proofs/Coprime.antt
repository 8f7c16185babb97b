-- Numbers with nothing in common, and the products and sums of fractions in lowest terms.
use Rattle.std.proofs.Common.{ℕ, ◌*◌, ◌/◌, subst}
use Rattle.std.proofs.lemmas.Nat.Gcd.{IsGcd-swap}
use Rattle.std.specs.Int.{IsGcd}
use Prim.Native.Nat.{◌∣◌}
use native.Mathlib.Nat.{dvd_trans, one-dvd, dvd-mul_right, div-mul_cancel}
use Rattle.rational.specs.Divisors.{gauss}

abbrev pub Coprime : ℕ → ℕ → Type 0
Coprime a b = IsGcd a b 1

pub coprime_swap : (a b : ℕ) → Coprime a b → Coprime b a
coprime_swap a b i = IsGcd-swap a b 1 i

-- a divisor of one number has nothing in common with the other either
pub coprime_left : (a b d : ℕ) → d ∣ a → Coprime a b → Coprime d b
coprime_left a b d h i = (one-dvd d, one-dvd b, λ k p q. i.2 k (dvd_trans k p h) q)

pub coprime_both : (a b d e : ℕ) → d ∣ a → e ∣ b → Coprime a b → Coprime d e
coprime_both a b d e h k i = coprime_swap e d (coprime_left b d e k (coprime_swap d b (coprime_left a b d h i)))

pub coprime-mul : (a b m : ℕ) → Coprime a m → Coprime b m → Coprime (a * b) m
coprime-mul a b m i j = (one-dvd (a * b), one-dvd m, λ k p q. j.2 k (gauss k a b (coprime_swap a k (coprime_right k q)) p) q)
  where
    coprime_right : (k : ℕ) → k ∣ m → Coprime a k
    coprime_right k q = coprime_swap k a (coprime_left m a k q (coprime_swap a m i))

pub quotient-divides : (a g : ℕ) → g ∣ a → (a / g) ∣ a
quotient-divides a g h = subst (λ (n : ℕ). (a / g) ∣ n) (div-mul_cancel g h) (dvd-mul_right (a / g) g)
