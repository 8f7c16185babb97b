use Rattle.std.proofs.Common.{◌≡◌, ◌+◌, length, map, take}
use Rattle.std.specs.List.{All}
use Rattle.lp_tableau.specs.Dictionaries.{slack_row}
use Rattle.lp_sparse.specs.SparseRows.{filled, terms_of_rows, IsRow}
use Rattle.lp_sparse.proofs.start.slacks.Given as goal

abbrev pub invariant-loop-r : goal.invariant-loop-r
invariant-loop-r g l = let n = length (g.P.Rows.program l.program).costs + 1 in
    All (IsRow g.S.Scalar.limit n) (terms_of_rows g.S.Scalar.value l.rows.items) × map (filled n) (terms_of_rows g.S.Scalar.value l.rows.items) ≡ take l.r (map slack_row (g.P.Rows.program l.program).rows)
