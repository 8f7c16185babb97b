use Rattle.std.proofs.Common.{◌-◌, ◌≤◌, length}
use Rattle.exact_lin.specs.Forms.{place_in}
use Rattle.lp_sparse.specs.SparseRows.{terms_of}
use Rattle.lp_sparse.proofs.rows.place_of.Given as goal

abbrev pub invariant-loop-low : goal.invariant-loop-low
invariant-loop-low g l = let place = place_in (terms_of g.S.Scalar.value l.row) l.column in
    (l.low ≤ place) × (place ≤ l.high) × (l.high ≤ length l.row)

abbrev pub decreases-loop-low : goal.decreases-loop-low
decreases-loop-low g l = l.high - l.low
