-- Believed: multipliers of rows without those that are 0, and that they prove what all of them prove.
use Rattle.std.specs.Prelude.{ℕ, List, filter, not}
use Rattle.rational.specs.Rational.{ℚ}
use Rattle.exact_lin.specs.Forms.{is_zero}
use Rattle.cert_core.specs.Programs.{Program, ProvesCost, ProvesEmpty}

-- the pairs whose multiplier isn't 0
abbrev pub without_zeros : List (ℕ × ℚ) → List (ℕ × ℚ)
without_zeros ys = filter (λ y. not (is_zero y.1)) ys

-- what proves a cost, or that there is no solution, proves it without its zeros
pub record ZerosProveNothing : Type 0 where
  pub costs : (p : Program) (ys : List (ℕ × ℚ)) (q : ℚ) → ProvesCost p ys q → ProvesCost p (without_zeros ys) q
  pub emptiness : (p : Program) (ys : List (ℕ × ℚ)) → ProvesEmpty p ys → ProvesEmpty p (without_zeros ys)
