use Rattle.std.proofs.Common.{◌≡◌, ℕ, ◌+◌, ◌<◌, sym, subst, ap, ◌∙◌, Some, arith, length, take, List}
use Rattle.std.proofs.lemmas.List.{take_all}
use Rattle.rational.specs.Rational.{ℚ}
use Rattle.lp_tableau.specs.Places.{FindsFirst, IsLesser}
use Rattle.lp_sparse.specs.SparseRows.{terms_of}
use Rattle.lp_sparse.specs.Directions.{Points}
use Rattle.lp_sparse.proofs.Coefficients.{length-terms_of, terms_of-at}
use Rattle.lp_sparse.proofs.Pointing.{points-take, points-skip}
use Rattle.lp_sparse.proofs.rules.least_of.Goals as goal
use Rattle.lp_sparse.proofs.rules.least_of.Goals.{then-counts, else-counts}

pub loop-term-preserved : goal.loop-term-preserved
loop-term-preserved g c =
    let value = g.S.Scalar.value in
    let all = terms_of value c.args.row.now in
    let t : ℕ × ℚ = (c.term-item.result.0, value c.term-item.result.1) in
    let n = length c.args.variables.now in
    let e = c.loop-term.term-index in
    let long : e < length all = omega (arith, c.loop-term-test.true, length-terms_of value c.args.row.now) in
    let there = terms_of-at value c.args.row.now e c.term-item.result t c.loop-term-test.true c.term-item.is in
    elim c.if-counts.branch [
      | then-counts w ↦ subst (λ b. FindsFirst (Points c.args.wanted (take (e + 1) all)) (IsLesser c.args.variables.now) n b) (sym w.best-is)
          (points-take c.args.wanted c.args.variables.now n all e t c.requires long there c.loop-term.best w.lesser.result (w.if-counts.ensures {u = tt}).0 (w.if-counts.ensures {u = tt}).1 w.lesser.ensures c.loop-term.invariant)
      | else-counts w ↦ subst (λ b. FindsFirst (Points c.args.wanted (take (e + 1) all)) (IsLesser c.args.variables.now) n b) (sym w.best-is)
          (points-skip c.args.wanted c.args.variables.now n all e t c.requires long there c.loop-term.best (w.if-counts.ensures {u = tt}) c.loop-term.invariant)
    ]

pub returns : goal.returns
returns g c =
    let all = terms_of g.S.Scalar.value c.args.row.now in
    subst (λ ts. FindsFirst (Points c.args.wanted ts) (IsLesser c.args.variables.now) (length c.args.variables.now) c.loop-term.best)
    (take_all c.loop-term.term-index all (omega (arith, c.loop-term-test.false, length-terms_of g.S.Scalar.value c.args.row.now))) c.loop-term.invariant
