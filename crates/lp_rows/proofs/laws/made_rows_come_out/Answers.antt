use Rattle.lp_rows.proofs.MadeRows.{made_rows}
use Rattle.lp_rows.proofs.laws.made_rows_come_out.Goals as goal

pub returns : goal.returns
returns c = made_rows
