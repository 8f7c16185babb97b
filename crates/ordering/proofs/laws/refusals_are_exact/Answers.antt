use Rattle.ordering.proofs.MoreSteps.{is_taken, built_more, step_taken, pair_taken, pair_fits}
use Rattle.ordering.proofs.OpenStarts.{closed_where_none, none_where_closed}
use Rattle.ordering.proofs.laws.refusals_are_exact.Goals as goal

pub returns : goal.returns
returns c = record {
  steps = λ task o s b. (λ e. built_more task o s b (is_taken task o s e), step_taken task o s);
  pairs = λ task o i j b. (pair_taken task o i j b, pair_fits task o i j);
  closing = λ task o b. (closed_where_none task o b, none_where_closed task o);
}
