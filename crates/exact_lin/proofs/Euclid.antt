-- Euclid's steps keep the greatest common divisor.
use Rattle.std.proofs.Common.{◌≡◌, ℕ, ◌%◌, ◌<◌, ◌≤◌, sym, ◌∙◌, ap}
use native.Mathlib.Nat.{le_of_dvd}
use Rattle.std.proofs.lemmas.Nat.Gcd.{IsGcd-from_mod}
use Rattle.rational.specs.Gcd.{gcd}
use Rattle.rational.specs.Divisors.{gcd-is, gcd-from-is}

pub gcd-step : (a b : ℕ) → gcd b (a % b) ≡ gcd a b
gcd-step a b = sym (gcd-from-is a b (gcd b (a % b)) (IsGcd-from_mod a b (gcd b (a % b)) (gcd-is b (a % b))))

pub gcd-end : (a b : ℕ) → b ≡ 0 → gcd a b ≡ a
unfolding gcd
gcd-end a b e = ap (gcd a) e

pub is-gcd : (x y a b : ℕ) → y ≡ 0 → gcd x y ≡ gcd a b → x ≡ gcd a b
is-gcd x y a b e h = sym (gcd-end x y e) ∙ h

pub gcd-at_most : (a b : ℕ) → 0 < b → gcd a b ≤ b
gcd-at_most a b h = le_of_dvd h (gcd-is a b).1
