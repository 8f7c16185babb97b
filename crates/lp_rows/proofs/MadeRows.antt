-- The rows of the made tasks come out by reckoning.
use Rattle.std.proofs.Common.{refl}
use Rattle.rational.specs.Gcd.{gcd}
use Rattle.rational.specs.Rational.{ratio, whole, ◌+ℚ◌, ◌*ℚ◌, neg_ℚ, cmp_ℚ, inverse, reciprocal}
use Rattle.task_types.specs.Course.{initial}
use Rattle.task_types.specs.Touch.{tokens}
use Rattle.task_types.specs.Order.{link, is_built, is_closed}
use Rattle.rate_ledger.specs.Entries.{value_before, value_after, value_end}
use Rattle.lp_rows.specs.Terms.{ways_of_term}
use Rattle.lp_rows.specs.Programs.{base_rows, metric_sum, soft_terms, prefix_rows}
use Rattle.lp_rows.specs.MadeRows.{MadeRowsComeOut}

pub made_rows : MadeRowsComeOut
unfolding gcd ratio whole ◌+ℚ◌ ◌*ℚ◌ neg_ℚ cmp_ℚ inverse reciprocal initial link tokens is_built is_closed base_rows metric_sum soft_terms prefix_rows value_before value_after value_end ways_of_term
made_rows = record {
  one_built = refl;
  one_rows = refl;
  one_rows_2 = refl;
  one_metric = refl;
  one_prefix = refl;
  two_built = refl;
  two_rows = refl;
  two_metric = refl;
  two_prefix = refl;
  three_built = refl;
  three_rows = refl;
  three_rows_2 = refl;
  three_metric = refl;
  three_prefix = refl;
  four_built = refl;
  four_rows = refl;
  four_metric = refl;
  four_prefix = refl;
  five_built = refl;
  five_rows = refl;
  five_metric = refl;
  five_prefix = refl;
  six_built = refl;
  six_rows = refl;
  six_metric = refl;
  six_prefix = refl;
  ways_1 = refl;
  ways_2 = refl;
  ways_3 = refl;
  ways_4 = refl;
}
