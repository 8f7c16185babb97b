use Rattle.std.proofs.Common.{◌≡◌, take}
use Rattle.lp_sparse.specs.SparseRows.{terms_of, scaled_terms}
use Rattle.lp_sparse.proofs.SolvedTerms.{CanScaleFirst}
use Rattle.lp_sparse.proofs.solving.scale_terms.Given as goal

abbrev pub invariant-loop-term : goal.invariant-loop-term
invariant-loop-term g l = (terms_of g.S.Scalar.value l.out.items ≡ take l.term-index (scaled_terms (g.S.Scalar.value l.y) (g.S.Scalar.value l.reciprocal) l.j (terms_of g.S.Scalar.value l.row)))
    × CanScaleFirst g.S.Scalar.limit (g.S.Scalar.value l.y) (terms_of g.S.Scalar.value l.row) l.term-index
