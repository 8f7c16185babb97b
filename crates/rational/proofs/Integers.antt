-- The integers are a commutative ring: the laws that std lacks, and the record that `Ring.ring` takes.
use Rattle.std.proofs.Common.{◌≡◌, ℕ, ◌*◌, ap, refl, arith}
use Rattle.std.proofs.lemmas.Int.{ints}
use Rattle.std.proofs.Math.IntN.{ℤ, pos, negsuc, ◌+ℤ◌, ◌*ℤ◌, neg_ℤ, +ℤ_assoc, +ℤ_comm, +ℤ_idl, *ℤ_comm, zero-*ℤ}
use borrow.Author.Differences.{up, down, same_in, product_is, sum_is_lem}
use Rattle.rational.proofs.Ring.{Ring}

pub *ℤ_assoc : (a b c : ℤ) → (a *ℤ b) *ℤ c ≡ a *ℤ (b *ℤ c)
*ℤ_assoc a b c = same_in ((a *ℤ b) *ℤ c) (a *ℤ (b *ℤ c))
    (omega (
      arith,
      product_is (a *ℤ b) c,
      product_is a (b *ℤ c),
      ap (λ (n : ℕ). n * up c) (product_is a b).0,
      ap (λ (n : ℕ). n * down c) (product_is a b).0,
      ap (λ (n : ℕ). n * up c) (product_is a b).1,
      ap (λ (n : ℕ). n * down c) (product_is a b).1,
      ap (λ (n : ℕ). up a * n) (product_is b c).0,
      ap (λ (n : ℕ). down a * n) (product_is b c).0,
      ap (λ (n : ℕ). up a * n) (product_is b c).1,
      ap (λ (n : ℕ). down a * n) (product_is b c).1,
    ))

pub *ℤ-+ℤ : (a b c : ℤ) → a *ℤ (b +ℤ c) ≡ a *ℤ b +ℤ a *ℤ c
*ℤ-+ℤ a b c = same_in (a *ℤ (b +ℤ c)) (a *ℤ b +ℤ a *ℤ c)
    (omega (
      arith,
      product_is a (b +ℤ c),
      sum_is_lem (a *ℤ b) (a *ℤ c),
      product_is a b,
      product_is a c,
      ap (λ (n : ℕ). up a * n) (sum_is_lem b c),
      ap (λ (n : ℕ). down a * n) (sum_is_lem b c),
    ))

pub one-*ℤ : (a : ℤ) → pos 1 *ℤ a ≡ a
one-*ℤ a = omega (arith, ints)

pub neg-is-times : (a : ℤ) → neg_ℤ a ≡ negsuc 0 *ℤ a
neg-is-times a = omega (arith, ints)

abbrev pub ℤ_ring : Ring
ℤ_ring = record { A = ℤ; add = ◌+ℤ◌; mul = ◌*ℤ◌; neg = neg_ℤ; of = λ z. z; add_assoc = +ℤ_assoc; add_comm = +ℤ_comm; zero_add = +ℤ_idl; mul_assoc = *ℤ_assoc; mul_comm = *ℤ_comm; one_mul = one-*ℤ; zero_mul = zero-*ℤ; mul_add = *ℤ-+ℤ; of_add = λ x y. refl; of_mul = λ x y. refl; neg_is = neg-is-times }
