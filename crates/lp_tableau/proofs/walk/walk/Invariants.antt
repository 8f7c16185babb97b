use Rattle.lp_tableau.specs.Chains.{Leads}
use Rattle.lp_tableau.specs.Meanings.{IsDictionary}
use Rattle.lp_tableau.specs.Tableaus.{AreEven, IsRoomFor, dictionary_of}
use Rattle.lp_tableau.specs.RowLists.{RowsFit, shown_rows}
use Rattle.lp_tableau.proofs.walk.walk.Given as goal

abbrev pub invariant-loop-made : goal.invariant-loop-made
invariant-loop-made g l = AreEven l.t × RowsFit g.S.Scalar.limit (shown_rows g.S.Scalar.value l.t.rows.items) × IsRoomFor l.t l.room × IsDictionary (dictionary_of g.S.Scalar.value l.t)
    × Leads g.S.Scalar.limit (dictionary_of g.S.Scalar.value l.fn.t) l.made (dictionary_of g.S.Scalar.value l.t)
