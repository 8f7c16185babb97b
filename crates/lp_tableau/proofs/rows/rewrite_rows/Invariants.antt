use Rattle.std.proofs.Common.{◌≡◌, ◌+◌, length, map}
use Rattle.lp_tableau.specs.RowLists.{HaveWidth, shown_rows}
use Rattle.lp_tableau.proofs.RowLists.{Rewritten}
use Rattle.lp_tableau.proofs.rows.rewrite_rows.Given as goal

abbrev pub invariant-loop-k : goal.invariant-loop-k
invariant-loop-k g l = record {
  count : length l.rows ≡ length l.fn.rows;
  spare_count : length l.spare ≡ length l.fn.spare;
  place : l.last + 1 ≡ length l.spare;
  even : HaveWidth (length l.solution) l.rows;
  spare_even : HaveWidth (length l.solution) l.spare;
  rewritten : Rewritten (map g.S.Scalar.value l.solution) l.i l.j (shown_rows g.S.Scalar.value l.fn.rows) (shown_rows g.S.Scalar.value l.fn.spare) (shown_rows g.S.Scalar.value l.rows) (shown_rows g.S.Scalar.value l.spare) l.k;
}
