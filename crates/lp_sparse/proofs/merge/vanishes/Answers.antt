use Rattle.std.proofs.Common.{sym}
use Rattle.exact_lin.proofs.Zeros.{is_zero-zero, is_zero-other, lt-other, gt-other}
use Rattle.lp_sparse.proofs.merge.vanishes.Goals as goal

pub returns-in-Zero-clause-value : goal.returns-in-Zero-clause-value
returns-in-Zero-clause-value g c = sym (is_zero-zero _ c.in-Zero.ensures.sign)

pub returns-in-Minus-clause-value : goal.returns-in-Minus-clause-value
returns-in-Minus-clause-value g c = sym (is_zero-other _ (lt-other _ c.in-Minus.ensures.sign))

pub returns-in-Plus-clause-value : goal.returns-in-Plus-clause-value
returns-in-Plus-clause-value g c = sym (is_zero-other _ (gt-other _ c.in-Plus.ensures.sign))
