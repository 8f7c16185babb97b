use Rattle.std.proofs.Common.{◌-◌, ◌+◌, ◌*◌, length}
use Rattle.pddl_problem.proofs.goals.+comparisons.Given as goal

abbrev pub decreases-is_comparison : goal.decreases-is_comparison
decreases-is_comparison l = 2 * (length l.forms.now.tokens - l.at)

abbrev pub decreases-compares_by : goal.decreases-compares_by
decreases-compares_by l = 2 * (length l.forms.now.tokens - l.at) + 1
