use Rattle.lp_rows.proofs.RowMeaning.{at_least_met, at_most_met}
use Rattle.lp_rows.proofs.laws.compared_rows_are_met.Goals as goal

pub returns : goal.returns
returns c = record { at_least = at_least_met; at_most = at_most_met }
