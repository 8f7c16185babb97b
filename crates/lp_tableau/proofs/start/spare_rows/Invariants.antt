use Rattle.std.proofs.Common.{◌≡◌, length}
use Rattle.lp_tableau.specs.RowLists.{HaveWidth}
use Rattle.lp_tableau.proofs.start.spare_rows.Given as goal

abbrev pub invariant-loop-k : goal.invariant-loop-k
invariant-loop-k g l = (length l.spare.items ≡ l._k) × HaveWidth (length l.row) l.spare.items
