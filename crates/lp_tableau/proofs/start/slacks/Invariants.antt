use Rattle.std.proofs.Common.{◌≡◌, map, take}
use Rattle.lp_tableau.specs.Dictionaries.{slack_row}
use Rattle.lp_tableau.specs.RowLists.{shown_rows, RowsFit}
use Rattle.lp_tableau.proofs.start.slacks.Given as goal

abbrev pub invariant-loop-r : goal.invariant-loop-r
invariant-loop-r g l = RowsFit g.S.Scalar.limit (shown_rows g.S.Scalar.value l.rows.items) × shown_rows g.S.Scalar.value l.rows.items ≡ take l.r (map slack_row (g.P.Rows.program l.program).rows)
