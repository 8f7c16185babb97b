use Rattle.std.proofs.Common.{◌+◌}
use Rattle.exact_lin.proofs.reckoning.+compare.Given as goal

abbrev pub decreases-compare : goal.decreases-compare
decreases-compare l = l.b + l.d
