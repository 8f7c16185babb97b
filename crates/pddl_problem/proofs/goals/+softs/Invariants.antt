use Rattle.std.proofs.Common.{◌≡◌, ◌≤◌, ◌-◌, ◌+◌, ◌*◌, ◌++◌, length}
use Rattle.pddl_terms.specs.Content.{content_at}
use Rattle.pddl_problem.specs.Goals.{softs}
use Rattle.pddl_problem.proofs.goals.+softs.Given as goal

abbrev pub decreases-soft_tree : goal.decreases-soft_tree
decreases-soft_tree l = 4 * (length l.forms.now.tokens - l.at) + 3

abbrev pub decreases-soft_by : goal.decreases-soft_by
decreases-soft_by l = 4 * (length l.forms.now.tokens - l.at) + 2

abbrev pub decreases-soft_formula : goal.decreases-soft_formula
decreases-soft_formula l = 4 * (length l.forms.now.tokens - l.at) + 1

abbrev pub decreases-softs : goal.decreases-softs
decreases-softs l = 4 * (length l.forms.now.tokens - l.from) + 4

abbrev pub invariant-softs-loop-out : goal.invariant-softs-loop-out
invariant-softs-loop-out l = record { above : l.from ≤ l.at; whole : l.out ++ softs (content_at l.forms l.at) ≡ softs (content_at l.forms l.from) }

abbrev pub decreases-softs-loop-out : goal.decreases-softs-loop-out
decreases-softs-loop-out l = length l.forms.tokens - l.at
