use Rattle.std.proofs.Common.{◌≡◌, ◌≤◌, ◌-◌, ◌+◌, ◌*◌, ◌++◌, length}
use Rattle.pddl_terms.specs.Content.{content_at}
use Rattle.pddl_terms.specs.Conditions.{conds}
use Rattle.pddl_terms.proofs.conditions.+conditions.Given as goal

abbrev pub decreases-cond_tree : goal.decreases-cond_tree
decreases-cond_tree l = 3 * (length l.forms.now.tokens - l.at)

abbrev pub decreases-cond_by : goal.decreases-cond_by
decreases-cond_by l = 3 * (length l.forms.now.tokens - l.from) + 2

abbrev pub decreases-conds : goal.decreases-conds
decreases-conds l = 3 * (length l.forms.now.tokens - l.from) + 1

abbrev pub invariant-conds-loop-out : goal.invariant-conds-loop-out
invariant-conds-loop-out l = record { above : l.from ≤ l.at; whole : l.out ++ conds (content_at l.forms l.at) ≡ conds (content_at l.forms l.from) }

abbrev pub decreases-conds-loop-out : goal.decreases-conds-loop-out
decreases-conds-loop-out l = length l.forms.tokens - l.at
