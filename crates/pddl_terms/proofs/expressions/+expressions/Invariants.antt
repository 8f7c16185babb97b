use Rattle.std.proofs.Common.{◌≡◌, ◌≤◌, ◌-◌, ◌+◌, ◌*◌, ◌++◌, length}
use Rattle.pddl_terms.specs.Content.{content_at}
use Rattle.pddl_terms.specs.Expressions.{exprs}
use Rattle.pddl_terms.proofs.expressions.+expressions.Given as goal

abbrev pub decreases-expr_tree : goal.decreases-expr_tree
decreases-expr_tree l = 4 * (length l.forms.now.tokens - l.at)

abbrev pub decreases-expr_by : goal.decreases-expr_by
decreases-expr_by l = 4 * (length l.forms.now.tokens - l.from) + 3

abbrev pub decreases-both : goal.decreases-both
decreases-both l = 4 * (length l.forms.now.tokens - l.at) + 1

abbrev pub decreases-minus : goal.decreases-minus
decreases-minus l = 4 * (length l.forms.now.tokens - l.at) + 2

abbrev pub decreases-exprs : goal.decreases-exprs
decreases-exprs l = 4 * (length l.forms.now.tokens - l.from) + 1

abbrev pub invariant-exprs-loop-out : goal.invariant-exprs-loop-out
invariant-exprs-loop-out l = record { above : l.from ≤ l.at; whole : l.out ++ exprs (content_at l.forms l.at) ≡ exprs (content_at l.forms l.from) }

abbrev pub decreases-exprs-loop-out : goal.decreases-exprs-loop-out
decreases-exprs-loop-out l = length l.forms.tokens - l.at
