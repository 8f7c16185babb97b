use Rattle.std.proofs.Common.{◌≡◌, ◌≤◌, ◌-◌, ◌+◌, ◌*◌, ◌++◌, length}
use Rattle.pddl_terms.specs.Content.{content_at}
use Rattle.pddl_terms.specs.Formulas.{facts}
use Rattle.pddl_terms.proofs.formulas.+formulas.Given as goal

abbrev pub decreases-fact_tree : goal.decreases-fact_tree
decreases-fact_tree l = 4 * (length l.forms.now.tokens - l.at)

abbrev pub decreases-boxed_fact : goal.decreases-boxed_fact
decreases-boxed_fact l = 4 * (length l.forms.now.tokens - l.at) + 1

abbrev pub decreases-fact_by : goal.decreases-fact_by
decreases-fact_by l = 4 * (length l.forms.now.tokens - l.from) + 3

abbrev pub decreases-facts : goal.decreases-facts
decreases-facts l = 4 * (length l.forms.now.tokens - l.from) + 1

abbrev pub invariant-facts-loop-out : goal.invariant-facts-loop-out
invariant-facts-loop-out l = record { above : l.from ≤ l.at; whole : l.out ++ facts (content_at l.forms l.at) ≡ facts (content_at l.forms l.from) }

abbrev pub decreases-facts-loop-out : goal.decreases-facts-loop-out
decreases-facts-loop-out l = length l.forms.tokens - l.at
