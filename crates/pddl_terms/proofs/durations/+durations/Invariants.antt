use Rattle.std.proofs.Common.{◌≡◌, ◌≤◌, ◌-◌, ◌+◌, ◌*◌, ◌++◌, length}
use Rattle.pddl_terms.specs.Content.{content_at}
use Rattle.pddl_terms.specs.Durations.{durs}
use Rattle.pddl_terms.proofs.durations.+durations.Given as goal

abbrev pub decreases-dur_tree : goal.decreases-dur_tree
decreases-dur_tree l = 3 * (length l.forms.now.tokens - l.at)

abbrev pub decreases-dur_by : goal.decreases-dur_by
decreases-dur_by l = 3 * (length l.forms.now.tokens - l.from) + 2

abbrev pub decreases-durs : goal.decreases-durs
decreases-durs l = 3 * (length l.forms.now.tokens - l.from) + 1

abbrev pub invariant-durs-loop-out : goal.invariant-durs-loop-out
invariant-durs-loop-out l = record { above : l.from ≤ l.at; whole : l.out ++ durs (content_at l.forms l.at) ≡ durs (content_at l.forms l.from) }

abbrev pub decreases-durs-loop-out : goal.decreases-durs-loop-out
decreases-durs-loop-out l = length l.forms.tokens - l.at
