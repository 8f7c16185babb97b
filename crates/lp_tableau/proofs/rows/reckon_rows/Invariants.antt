use Rattle.std.proofs.Common.{◌≡◌, ◌+◌, length, map}
use Rattle.lp_tableau.specs.RowLists.{HaveWidth, shown_rows}
use Rattle.lp_tableau.proofs.RowLists.{Reckoned}
use Rattle.lp_tableau.proofs.rows.reckon_rows.Given as goal

abbrev pub invariant-loop-k : goal.invariant-loop-k
invariant-loop-k g l = record {
  count : length l.spare ≡ length l.fn.spare;
  place : l.last + 1 ≡ length l.spare;
  even : HaveWidth (length l.solution) l.spare;
  reckoned : Reckoned g.S.Scalar.limit (map g.S.Scalar.value l.solution) l.i l.j (shown_rows g.S.Scalar.value l.rows) (shown_rows g.S.Scalar.value l.spare) l.k;
}
