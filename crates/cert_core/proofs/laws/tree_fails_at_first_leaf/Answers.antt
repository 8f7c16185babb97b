use Rattle.cert_core.proofs.NumberedLeaves.{fails-at_first_leaf}
use Rattle.cert_core.proofs.laws.tree_fails_at_first_leaf.Goals as goal

pub returns : goal.returns
returns g c = fails-at_first_leaf g.S.Scalar.limit (g.P.SoftRows.soft c.args._soft.now)
