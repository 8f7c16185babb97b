use Rattle.std.proofs.Common.{take, ◌++◌, ◌∷◌, []}
use Rattle.lp_sparse.specs.SparseRows.{terms_of, IsRowOf}
use Rattle.lp_sparse.proofs.start.costs.Given as goal

abbrev pub invariant-loop-v : goal.invariant-loop-v
invariant-loop-v g l = IsRowOf g.S.Scalar.limit l.v (take l.v ((g.P.Rows.program l.program).costs ++ (g.P.Rows.program l.program).base ∷ [])) (terms_of g.S.Scalar.value l.row.items)
