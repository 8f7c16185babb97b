use Rattle.std.proofs.Common.{◌≡◌, ◌-◌, ◌++◌, length}
use Rattle.pddl_terms.specs.Content.{content_at}
use Rattle.pddl_problem.specs.Entries.{entries}
use Rattle.pddl_problem.proofs.entries.entries.Given as goal

abbrev pub invariant-loop-out : goal.invariant-loop-out
invariant-loop-out l = l.out ++ entries (content_at l.forms l.at) ≡ entries (content_at l.forms l.from)

abbrev pub decreases-loop-out : goal.decreases-loop-out
decreases-loop-out l = length l.forms.tokens - l.at
