use Rattle.std.proofs.Common.{◌≡◌, ℕ, length, map}
use Rattle.rational.specs.Rational.{zeroℚ}
use Rattle.rational.specs.Lists.{scale_list, at}
use Rattle.exact_lin.specs.Reckoning.{CanMultiply}
use Rattle.lp_tableau.proofs.Writing.{Written}
use Rattle.lp_tableau.proofs.rows.scale_row.Given as goal

abbrev pub invariant-loop-k : goal.invariant-loop-k
invariant-loop-k g l =
    (length l.out ≡ length l.row)
    × Written g.S.Scalar.value zeroℚ (λ (k : ℕ). CanMultiply g.S.Scalar.limit (g.S.Scalar.value l.y) (at (map g.S.Scalar.value l.row) k)) (scale_list (g.S.Scalar.value l.y) (map g.S.Scalar.value l.row)) l.out l.k
