use Rattle.std.proofs.Common.{sym}
use Rattle.exact_lin.proofs.Zeros.{is_zero-zero, is_zero-other, lt-other, gt-other}
use Rattle.ground_world.proofs.sums.is_zero.Goals as goal

pub returns-in-Minus-clause-value : goal.returns-in-Minus-clause-value
returns-in-Minus-clause-value c = sym (is_zero-other c.args.number (lt-other c.args.number c.in-Minus.ensures.sign))

pub returns-in-Zero-clause-value : goal.returns-in-Zero-clause-value
returns-in-Zero-clause-value c = sym (is_zero-zero c.args.number c.in-Zero.ensures.sign)

pub returns-in-Plus-clause-value : goal.returns-in-Plus-clause-value
returns-in-Plus-clause-value c = sym (is_zero-other c.args.number (gt-other c.args.number c.in-Plus.ensures.sign))
