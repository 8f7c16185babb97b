use Rattle.lp_rows.proofs.RowMeaning.{dense_at}
use Rattle.lp_rows.proofs.laws.dense_rows_are_sparse.Goals as goal

pub returns : goal.returns
returns c = dense_at
