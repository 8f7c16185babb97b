use Rattle.std.proofs.Common.{ap, subst, List, ℕ, arith}
use Rattle.std.proofs.lemmas.List.{drop_all}
use Rattle.rational.specs.Rational.{ℚ}
use Rattle.cert_core.specs.Checks.{claim_of}
use Rattle.cert_core.specs.Faults.{multipliers_of}
use Rattle.cert_core.proofs.AddedSums.{SumsGoOn, SumsGoOn-begin, SumsGoOn-next, SumsGoOn-all, SumsGoOn-fit}
use Rattle.cert_core.proofs.column_sums.add_rows.Goals as goal
use Rattle.basics.proofs.Lists.{drop_item}

pub loop-pair-init : goal.loop-pair-init
loop-pair-init g c = SumsGoOn-begin g.S.Scalar.value g.S.Scalar.limit (g.P.Rows.program c.args.program.now) (claim_of g.S.Scalar.value c.args.claim) (multipliers_of g.R.Id.number_of g.S.Scalar.value c.args.pairs.now) c.begin.new.sums c.begin.ensures

pub add_row-requires-clause-fit : goal.add_row-requires-clause-fit
add_row-requires-clause-fit g c = SumsGoOn-fit g.S.Scalar.value g.S.Scalar.limit (g.P.Rows.program c.args.program.now) (claim_of g.S.Scalar.value c.args.claim) (multipliers_of g.R.Id.number_of g.S.Scalar.value c.args.pairs.now) _ c.loop-pair.sums c.loop-pair.invariant

pub loop-pair-preserved : goal.loop-pair-preserved
loop-pair-preserved g c =
    let shows = multipliers_of g.R.Id.number_of g.S.Scalar.value in
    let p = g.P.Rows.program c.args.program.now in
    let item = drop_item c.args.pairs.now c.loop-pair.pair-index c.pair-item.result c.loop-pair-test.true c.pair-item.is in
    SumsGoOn-next g.S.Scalar.value g.S.Scalar.limit p (claim_of g.S.Scalar.value c.args.claim) (shows c.args.pairs.now) _ _ c.loop-pair.sums c.add_row.new.sums c.add_row.ensures
    (subst (λ (ys : List (ℕ × ℚ)). SumsGoOn g.S.Scalar.value g.S.Scalar.limit p (claim_of g.S.Scalar.value c.args.claim) (shows c.args.pairs.now) ys c.loop-pair.sums) (ap shows item) c.loop-pair.invariant)

pub returns : goal.returns
returns g c =
    let shows = multipliers_of g.R.Id.number_of g.S.Scalar.value in
    let p = g.P.Rows.program c.args.program.now in
    SumsGoOn-all g.S.Scalar.value g.S.Scalar.limit p (claim_of g.S.Scalar.value c.args.claim) (shows c.args.pairs.now) c.loop-pair.sums
    (subst (λ (ys : List (ℕ × ℚ)). SumsGoOn g.S.Scalar.value g.S.Scalar.limit p (claim_of g.S.Scalar.value c.args.claim) (shows c.args.pairs.now) ys c.loop-pair.sums) (ap shows (drop_all c.loop-pair.pair-index c.args.pairs.now (omega arith))) c.loop-pair.invariant)
