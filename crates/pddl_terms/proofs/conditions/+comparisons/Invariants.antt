use Rattle.std.proofs.Common.{◌-◌, ◌+◌, ◌*◌, length}
use Rattle.pddl_terms.proofs.conditions.+comparisons.Given as goal

abbrev pub decreases-cmp_tree : goal.decreases-cmp_tree
decreases-cmp_tree l = 2 * (length l.forms.now.tokens - l.at)

abbrev pub decreases-cmp_by : goal.decreases-cmp_by
decreases-cmp_by l = 2 * (length l.forms.now.tokens - l.from) + 1
