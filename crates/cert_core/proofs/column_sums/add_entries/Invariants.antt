use Rattle.cert_core.specs.Programs.{entry_of}
use Rattle.cert_core.proofs.AddedSums.{AddedTo}
use Rattle.cert_core.proofs.column_sums.add_entries.Given as goal

abbrev pub invariant-loop-number : goal.invariant-loop-number
invariant-loop-number g l = AddedTo g.S.Scalar.value g.S.Scalar.limit (g.S.Scalar.value l.y) (entry_of (g.P.Rows.program l.program) (g.R.Id.number_of l.r)) l.fn.sums l.sums l.number
