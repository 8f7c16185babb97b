use Rattle.std.proofs.Common.{◌≡◌, ◌≤◌, ◌-◌, ◌+◌, ◌*◌, ◌++◌, length}
use Rattle.pddl_terms.specs.Content.{content_at}
use Rattle.pddl_domain.specs.Effects.{effs}
use Rattle.pddl_domain.proofs.effects.+effects.Given as goal

abbrev pub decreases-eff_tree : goal.decreases-eff_tree
decreases-eff_tree l = 3 * (length l.forms.now.tokens - l.at)

abbrev pub decreases-eff_by : goal.decreases-eff_by
decreases-eff_by l = 3 * (length l.forms.now.tokens - l.from) + 2

abbrev pub decreases-effs : goal.decreases-effs
decreases-effs l = 3 * (length l.forms.now.tokens - l.from) + 1

abbrev pub invariant-effs-loop-out : goal.invariant-effs-loop-out
invariant-effs-loop-out l = record { above : l.from ≤ l.at; whole : l.out ++ effs (content_at l.forms l.at) ≡ effs (content_at l.forms l.from) }

abbrev pub decreases-effs-loop-out : goal.decreases-effs-loop-out
decreases-effs-loop-out l = length l.forms.tokens - l.at
