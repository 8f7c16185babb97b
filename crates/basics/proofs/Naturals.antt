-- Tests on natural numbers, as facts.
use Rattle.std.proofs.Common.{◌≡◌, ℕ, ◌<◌, ◌≤◌, true, false, ◌==◌, nat_lt, nat_le, arith}
use Rattle.std.proofs.lemmas.Bool.Decides.{nat_tests}

pub same_itself : (n : ℕ) → (n == n) ≡ true
same_itself n = grind (arith, nat_tests)

pub same_out : (a b : ℕ) → (a == b) ≡ true → a ≡ b
same_out a b e = grind (arith, nat_tests)

pub same_in : (a b : ℕ) → a ≡ b → (a == b) ≡ true
same_in a b e = grind (arith, nat_tests)

pub other_out : (a b : ℕ) → (a == b) ≡ false → ¬ (a ≡ b)
other_out a b e = λ h. let f : a ≡ b = h in grind (arith, nat_tests)

pub lt_in : (m n : ℕ) → m < n → nat_lt m n ≡ true
lt_in m n h = grind (arith, nat_tests)

pub lt_out : (m n : ℕ) → nat_lt m n ≡ true → m < n
lt_out m n e = grind (arith, nat_tests)

pub le_in : (m n : ℕ) → m ≤ n → nat_le m n ≡ true
le_in m n h = grind (arith, nat_tests)

pub le_out : (m n : ℕ) → nat_le m n ≡ true → m ≤ n
le_out m n e = grind (arith, nat_tests)
