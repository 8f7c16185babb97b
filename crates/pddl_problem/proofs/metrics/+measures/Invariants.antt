use Rattle.std.proofs.Common.{◌≡◌, ◌≤◌, ◌-◌, ◌+◌, ◌*◌, ◌++◌, length}
use Rattle.pddl_terms.specs.Content.{content_at}
use Rattle.pddl_problem.specs.Metrics.{measures}
use Rattle.pddl_problem.proofs.metrics.+measures.Given as goal

abbrev pub decreases-measure_tree : goal.decreases-measure_tree
decreases-measure_tree l = 5 * (length l.forms.now.tokens - l.at)

abbrev pub decreases-both : goal.decreases-both
decreases-both l = 5 * (length l.forms.now.tokens - l.at) + 1

abbrev pub decreases-minus : goal.decreases-minus
decreases-minus l = 5 * (length l.forms.now.tokens - l.at) + 2

abbrev pub decreases-expression_by : goal.decreases-expression_by
decreases-expression_by l = 5 * (length l.forms.now.tokens - l.from) + 3

abbrev pub decreases-measure_by : goal.decreases-measure_by
decreases-measure_by l = 5 * (length l.forms.now.tokens - l.from) + 4

abbrev pub decreases-measures : goal.decreases-measures
decreases-measures l = 5 * (length l.forms.now.tokens - l.from) + 1

abbrev pub invariant-measures-loop-out : goal.invariant-measures-loop-out
invariant-measures-loop-out l = record { above : l.from ≤ l.at; whole : l.out ++ measures (content_at l.forms l.at) ≡ measures (content_at l.forms l.from) }

abbrev pub decreases-measures-loop-out : goal.decreases-measures-loop-out
decreases-measures-loop-out l = length l.forms.tokens - l.at
