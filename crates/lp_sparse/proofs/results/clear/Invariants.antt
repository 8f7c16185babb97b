use Rattle.std.proofs.Common.{◌≡◌, ℕ, [], length}
use Rattle.rational.specs.Rational.{zeroℚ}
use Rattle.lp_tableau.proofs.Writing.{Written}
use Rattle.lp_sparse.proofs.results.clear.Given as goal

abbrev pub invariant-loop-k : goal.invariant-loop-k
invariant-loop-k g l = (length l.out ≡ length l.fn.out) × Written g.S.Scalar.value zeroℚ (λ (k : ℕ). Unit {0}) [] l.out l.k
