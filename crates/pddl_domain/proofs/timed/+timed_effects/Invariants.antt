use Rattle.std.proofs.Common.{◌≡◌, ◌≤◌, ◌-◌, ◌+◌, ◌*◌, ◌++◌, length}
use Rattle.pddl_terms.specs.Content.{content_at}
use Rattle.pddl_domain.specs.Timed.{timed_effs}
use Rattle.pddl_domain.proofs.timed.+timed_effects.Given as goal

abbrev pub decreases-timed_eff_tree : goal.decreases-timed_eff_tree
decreases-timed_eff_tree l = 3 * (length l.forms.now.tokens - l.at)

abbrev pub decreases-timed_eff_by : goal.decreases-timed_eff_by
decreases-timed_eff_by l = 3 * (length l.forms.now.tokens - l.from) + 2

abbrev pub decreases-timed_effs : goal.decreases-timed_effs
decreases-timed_effs l = 3 * (length l.forms.now.tokens - l.from) + 1

abbrev pub invariant-timed_effs-loop-out : goal.invariant-timed_effs-loop-out
invariant-timed_effs-loop-out l = record { above : l.from ≤ l.at; whole : l.out ++ timed_effs (content_at l.forms l.at) ≡ timed_effs (content_at l.forms l.from) }

abbrev pub decreases-timed_effs-loop-out : goal.decreases-timed_effs-loop-out
decreases-timed_effs-loop-out l = length l.forms.tokens - l.at
