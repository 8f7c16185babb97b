use Rattle.std.proofs.Common.{arith}
use Rattle.exact_lin.specs.Reckoning.{wide_limit}
use Rattle.plan_text.proofs.LowestTerms.{past_limit, between_above, between_below, neighbours-some, step-falls}
use Rattle.plan_text.proofs.lowest_terms.lowest_parts.Goals as goal
use Rattle.plan_text.proofs.lowest_terms.lowest_parts.Goals.{then-num-gt-WIDE_LIMIT-via-then-num-gt-WIDE_LIMIT, then-num-gt-WIDE_LIMIT-via-else-num-gt-WIDE_LIMIT+then-den-gt-WIDE_LIMIT}

pub returns-then-num-gt-WIDE_LIMIT-clause-none : goal.returns-then-num-gt-WIDE_LIMIT-clause-none
returns-then-num-gt-WIDE_LIMIT-clause-none c fits =
    let parts = past_limit _ _ _ _ _ _ _ c.requires.some c.descent.invariant.between fits in
    elim c.then-num-gt-WIDE_LIMIT.branch [
      | then-num-gt-WIDE_LIMIT-via-then-num-gt-WIDE_LIMIT w ↦ omega (arith, w.if-num-gt-WIDE_LIMIT.true)
      | then-num-gt-WIDE_LIMIT-via-else-num-gt-WIDE_LIMIT+then-den-gt-WIDE_LIMIT w ↦ omega (arith, w.if-den-gt-WIDE_LIMIT.true)
    ]

pub descent-preserved-in-Greater : goal.descent-preserved-in-Greater
descent-preserved-in-Greater c =
    let loop = c.descent.invariant in
    record {
      between = between_above _ _ _ _ _ _ _ _ loop.between c.far-above.ensures.step c.far-above.ensures.on_side;
      above_num = c.far-above.ensures.num;
      above_den = c.far-above.ensures.den;
      below_num = loop.below_num;
      below_den = loop.below_den;
    }

pub descent-preserved : goal.descent-preserved
descent-preserved c =
    let loop = c.descent.invariant in
    record {
      between = between_below _ _ _ _ _ _ _ _ loop.between c.far-below.ensures.step c.far-below.ensures.on_side;
      above_num = loop.above_num;
      above_den = loop.above_den;
      below_num = c.far-below.ensures.num;
      below_den = c.far-below.ensures.den;
    }

pub far-above-requires-clause-some : goal.far-above-requires-clause-some
far-above-requires-clause-some c = (neighbours-some _ _ _ _ _ _ c.descent.invariant.between).1

pub far-below-requires-clause-some : goal.far-below-requires-clause-some
far-below-requires-clause-some c = (neighbours-some _ _ _ _ _ _ c.descent.invariant.between).0

pub descent-smaller-in-Greater : goal.descent-smaller-in-Greater
descent-smaller-in-Greater c =
    let some = neighbours-some _ _ _ _ _ _ c.descent.invariant.between in
    (step-falls wide_limit _ _ _ _ _ _ _ c.far-above.ensures.step some.1 c.far-above.ensures.num c.far-above.ensures.den).0

pub descent-smaller : goal.descent-smaller
descent-smaller c =
    let some = neighbours-some _ _ _ _ _ _ c.descent.invariant.between in
    (step-falls wide_limit _ _ _ _ _ _ _ c.far-below.ensures.step some.0 c.far-below.ensures.num c.far-below.ensures.den).1
