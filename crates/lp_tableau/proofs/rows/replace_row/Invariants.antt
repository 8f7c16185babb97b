use Rattle.std.proofs.Common.{◌≡◌, ℕ, length, map}
use Rattle.rational.specs.Lists.{at}
use Rattle.rational.specs.Rational.{zeroℚ}
use Rattle.exact_lin.specs.Reckonings.{AreDefined, product_sum}
use Rattle.lp_tableau.specs.Pivots.{cleared, replaced}
use Rattle.lp_tableau.proofs.Writing.{Written}
use Rattle.lp_tableau.proofs.rows.replace_row.Given as goal

abbrev pub invariant-loop-k : goal.invariant-loop-k
invariant-loop-k g l =
    (length l.out ≡ length l.row)
    × Written g.S.Scalar.value zeroℚ (λ (k : ℕ). AreDefined g.S.Scalar.limit (product_sum (at (cleared (map g.S.Scalar.value l.row) l.j) k) (at (map g.S.Scalar.value l.row) l.j) (at (map g.S.Scalar.value l.solution) k))) (replaced (map g.S.Scalar.value l.solution) l.j (map g.S.Scalar.value l.row)) l.out l.k
