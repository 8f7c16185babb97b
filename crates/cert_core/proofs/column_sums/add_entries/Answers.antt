use Rattle.std.proofs.Common.{◌∙◌, ap, arith}
use Rattle.cert_core.specs.Programs.{entry_of}
use Rattle.cert_core.proofs.AddedSums.{AddedTo-begin, AddedTo-step, AddedTo-all}
use Rattle.cert_core.proofs.column_sums.add_entries.Goals as goal

pub loop-number-init : goal.loop-number-init
loop-number-init g c = AddedTo-begin g.S.Scalar.value g.S.Scalar.limit (g.S.Scalar.value c.args.y) (entry_of (g.P.Rows.program c.args.program.now) (g.R.Id.number_of c.args.r)) c.args.sums.now

pub loop-number-preserved : goal.loop-number-preserved
loop-number-preserved g c = AddedTo-step g.S.Scalar.value g.S.Scalar.limit _ _ _ _ c.loop-number.number _ _ _ (omega (arith, c.var_count-number-end.ensures, c.requires.room, c.loop-number.invariant.same_length))
    (c.entry.ensures ∙ ap (entry_of (g.P.Rows.program c.args.program.now) (g.R.Id.number_of c.args.r)) c.of.ensures) c.index-sums-place.is c.added.ensures c.loop-number.invariant

pub returns : goal.returns
returns g c = AddedTo-all g.S.Scalar.value g.S.Scalar.limit (g.S.Scalar.value c.args.y) (entry_of (g.P.Rows.program c.args.program.now) (g.R.Id.number_of c.args.r)) c.args.sums.now c.loop-number.sums c.loop-number.number
    (omega (arith, c.var_count-number-end.ensures, c.requires.room)) c.loop-number.invariant
