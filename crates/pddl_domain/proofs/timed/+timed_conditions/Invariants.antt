use Rattle.std.proofs.Common.{◌≡◌, ◌≤◌, ◌-◌, ◌+◌, ◌*◌, ◌++◌, length}
use Rattle.pddl_terms.specs.Content.{content_at}
use Rattle.pddl_domain.specs.Timed.{timed_conds}
use Rattle.pddl_domain.proofs.timed.+timed_conditions.Given as goal

abbrev pub decreases-timed_cond_tree : goal.decreases-timed_cond_tree
decreases-timed_cond_tree l = 3 * (length l.forms.now.tokens - l.at)

abbrev pub decreases-timed_cond_by : goal.decreases-timed_cond_by
decreases-timed_cond_by l = 3 * (length l.forms.now.tokens - l.from) + 2

abbrev pub decreases-timed_conds : goal.decreases-timed_conds
decreases-timed_conds l = 3 * (length l.forms.now.tokens - l.from) + 1

abbrev pub invariant-timed_conds-loop-out : goal.invariant-timed_conds-loop-out
invariant-timed_conds-loop-out l = record { above : l.from ≤ l.at; whole : l.out ++ timed_conds (content_at l.forms l.at) ≡ timed_conds (content_at l.forms l.from) }

abbrev pub decreases-timed_conds-loop-out : goal.decreases-timed_conds-loop-out
decreases-timed_conds-loop-out l = length l.forms.tokens - l.at
