use Rattle.std.proofs.Common.{◌≡◌, map, take}
use Rattle.exact_lin.specs.Forms.{shown}
use Rattle.lp_tableau.specs.Multipliers.{numbered}
use Rattle.lp_sparse.specs.NonzeroMultipliers.{without_zeros}
use Rattle.lp_sparse.proofs.multipliers.nonzero_pairs.Given as goal

abbrev pub invariant-loop-k : goal.invariant-loop-k
invariant-loop-k g l = shown g.R.Id.number_of g.S.Scalar.value l.pairs.items ≡ without_zeros (numbered 0 (map g.S.Scalar.value (take l.k l.multipliers)))
