use Rattle.std.proofs.Common.{◌+◌, ◌-◌, ◌≤◌, ◌++◌}
use Rattle.exact_lin.specs.Reckoning.{wide_limit}
use Rattle.basics.specs.Texts.{number}
use Rattle.plan_text.specs.Quotients.{LiesBetween}
use Rattle.plan_text.proofs.lowest_terms.lowest_parts.Given as goal

abbrev pub invariant-descent : goal.invariant-descent
invariant-descent l = record {
  between : LiesBetween (number (l.n.front.now ++ l.n.back.now)) (number (l.d.front.now ++ l.d.back.now)) l.above.num l.above.den l.below.num l.below.den;
  above_num : l.above.num ≤ wide_limit;
  above_den : l.above.den ≤ wide_limit;
  below_num : l.below.num ≤ wide_limit;
  below_den : l.below.den ≤ wide_limit;
}

abbrev pub decreases-descent : goal.decreases-descent
decreases-descent l = wide_limit - l.above.num + (wide_limit - l.above.den) + (wide_limit - l.below.num + (wide_limit - l.below.den))
