use Rattle.cert_core.proofs.NumberedLeaves.{passes_with-leaves}
use Rattle.cert_core.proofs.laws.tree_passes_with_its_leaves.Goals as goal

pub returns : goal.returns
returns g c = passes_with-leaves g.T.Id.number_of g.R.Id.number_of g.S.Scalar.value g.S.Scalar.limit (g.P.SoftRows.soft c.args._soft.now) c.args._tree.now (g.met.P.SoftRows.lawful c.args._soft.now)
