use Rattle.lp_sparse.proofs.Nonzeros.{zeros-prove-nothing}
use Rattle.lp_sparse.proofs.multipliers.zeros_prove_nothing.Goals as goal

pub returns : goal.returns
returns c = zeros-prove-nothing
