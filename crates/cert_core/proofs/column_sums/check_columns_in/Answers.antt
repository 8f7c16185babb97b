use Rattle.std.proofs.Common.{◌<◌, length, arith}
use Rattle.cert_core.specs.Checks.{claim_of, column_start, column_terms, columns_duties}
use Rattle.cert_core.specs.Faults.{multipliers_of}
use Rattle.cert_core.proofs.Columns.{next_column, unmet_column-first}
use Rattle.cert_core.proofs.AddedSums.{sum-of_column}
use Rattle.cert_core.proofs.column_sums.check_columns_in.Goals as goal

pub returns-in-Err : goal.returns-in-Err
returns-in-Err g c =
    let p = g.P.Rows.program c.args.program.now in
    let claim = claim_of g.S.Scalar.value c.args.claim in
    let ys = multipliers_of g.R.Id.number_of g.S.Scalar.value c.args.pairs.now in
    let w = g.V.Id.number_of c.of.result in
    let short : c.loop-number.number < length p.costs = omega (arith, c.var_count-number-end.ensures) in
    let sum = sum-of_column g.S.Scalar.value g.S.Scalar.limit p claim ys c.add_rows.new.sums c.loop-number.number w c.index-sums-number.result c.of.ensures short c.index-sums-number.is c.add_rows.ensures in
    unmet_column-first g.S.Scalar.limit p claim ys (columns_duties g.S.Scalar.limit p claim ys 0 (length p.costs)) c.loop-number.number w (length p.costs) _ short c.of.ensures c.loop-number.invariant (c.in-Err.ensures {u = tt} (column_start p claim w) (column_terms p ys w) sum)

pub loop-number-preserved : goal.loop-number-preserved
loop-number-preserved g c =
    let p = g.P.Rows.program c.args.program.now in
    let claim = claim_of g.S.Scalar.value c.args.claim in
    let ys = multipliers_of g.R.Id.number_of g.S.Scalar.value c.args.pairs.now in
    let w = g.V.Id.number_of c.of.result in
    let short : c.loop-number.number < length p.costs = omega (arith, c.var_count-number-end.ensures) in
    let sum = sum-of_column g.S.Scalar.value g.S.Scalar.limit p claim ys c.add_rows.new.sums c.loop-number.number w c.index-sums-number.result c.of.ensures short c.index-sums-number.is c.add_rows.ensures in
    next_column g.S.Scalar.limit p claim ys (columns_duties g.S.Scalar.limit p claim ys 0 (length p.costs)) c.loop-number.number w (length p.costs) short c.of.ensures c.loop-number.invariant (c.in-Ok.ensures {u = tt} (column_start p claim w) (column_terms p ys w) sum)
