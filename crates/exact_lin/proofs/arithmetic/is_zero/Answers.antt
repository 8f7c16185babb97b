use Rattle.std.proofs.Common.{sym}
use Rattle.exact_lin.proofs.Zeros.{is_zero-zero, is_zero-other, lt-other, gt-other}
use Rattle.exact_lin.proofs.arithmetic.is_zero.Goals as goal

pub returns-in-Zero-clause-test : goal.returns-in-Zero-clause-test
returns-in-Zero-clause-test g c = sym (is_zero-zero _ c.in-Zero.ensures.sign)

pub returns-in-Minus-clause-test : goal.returns-in-Minus-clause-test
returns-in-Minus-clause-test g c = sym (is_zero-other _ (lt-other _ c.in-Minus.ensures.sign))

pub returns-in-Plus-clause-test : goal.returns-in-Plus-clause-test
returns-in-Plus-clause-test g c = sym (is_zero-other _ (gt-other _ c.in-Plus.ensures.sign))
