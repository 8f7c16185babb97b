use Rattle.std.proofs.Common.{◌≡◌, ◌≤◌, ◌-◌, ◌+◌, ◌*◌, ◌++◌, length}
use Rattle.pddl_terms.specs.Content.{content_at}
use Rattle.pddl_problem.specs.Goals.{goals}
use Rattle.pddl_problem.proofs.goals.+goals.Given as goal

abbrev pub decreases-goal_tree : goal.decreases-goal_tree
decreases-goal_tree l = 4 * (length l.forms.now.tokens - l.at) + 3

abbrev pub decreases-goal_by : goal.decreases-goal_by
decreases-goal_by l = 4 * (length l.forms.now.tokens - l.at) + 2

abbrev pub decreases-goal_cond : goal.decreases-goal_cond
decreases-goal_cond l = 4 * (length l.forms.now.tokens - l.at) + 1

abbrev pub decreases-goals : goal.decreases-goals
decreases-goals l = 4 * (length l.forms.now.tokens - l.from) + 4

abbrev pub invariant-goals-loop-out : goal.invariant-goals-loop-out
invariant-goals-loop-out l = record { above : l.from ≤ l.at; whole : l.out ++ goals (content_at l.forms l.at) ≡ goals (content_at l.forms l.from) }

abbrev pub decreases-goals-loop-out : goal.decreases-goals-loop-out
decreases-goals-loop-out l = length l.forms.tokens - l.at
