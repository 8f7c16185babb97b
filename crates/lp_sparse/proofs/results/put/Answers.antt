use Rattle.lp_tableau.proofs.LookedUp.{put-is}
use Rattle.lp_sparse.proofs.results.put.Goals as goal

pub returns-then-variable-start-clause-value : goal.returns-then-variable-start-clause-value
returns-then-variable-start-clause-value g c = put-is g.S.Scalar.value c.args.start c.args.variable c.args.value c.args.out.now c.if-start-variable.true c.if-variable-start.true
