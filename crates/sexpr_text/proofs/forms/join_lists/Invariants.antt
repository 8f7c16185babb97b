use Rattle.std.proofs.Common.{ℕ}
use Rattle.sexpr_text.proofs.Joining.{Joined}
use Rattle.sexpr_text.proofs.forms.join_lists.Given as goal

abbrev pub invariant-loop-i : goal.invariant-loop-i
invariant-loop-i l = (place : ℕ) × Joined l.text l.fn.tokens l.tokens l.i l.open.items place
