use Rattle.std.proofs.Common.{◌≡◌, ◌≤◌, ◌-◌, ◌+◌, ◌*◌, ◌++◌, length}
use Rattle.pddl_terms.specs.Content.{content_at}
use Rattle.pddl_terms.specs.Constraints.{cons}
use Rattle.pddl_terms.proofs.constraints.+constraints.Given as goal

abbrev pub decreases-con_tree : goal.decreases-con_tree
decreases-con_tree l = 3 * (length l.forms.now.tokens - l.at)

abbrev pub decreases-con_by : goal.decreases-con_by
decreases-con_by l = 3 * (length l.forms.now.tokens - l.from) + 2

abbrev pub decreases-cons : goal.decreases-cons
decreases-cons l = 3 * (length l.forms.now.tokens - l.from) + 1

abbrev pub invariant-cons-loop-out : goal.invariant-cons-loop-out
invariant-cons-loop-out l = record { above : l.from ≤ l.at; whole : l.out ++ cons (content_at l.forms l.at) ≡ cons (content_at l.forms l.from) }

abbrev pub decreases-cons-loop-out : goal.decreases-cons-loop-out
decreases-cons-loop-out l = length l.forms.tokens - l.at
