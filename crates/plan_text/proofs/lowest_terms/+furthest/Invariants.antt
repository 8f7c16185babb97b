use Rattle.std.proofs.Common.{◌+◌, ◌-◌}
use Rattle.exact_lin.specs.Reckoning.{wide_limit}
use Rattle.plan_text.proofs.lowest_terms.+furthest.Given as goal

abbrev pub decreases-furthest : goal.decreases-furthest
decreases-furthest l = wide_limit - l.best.num + (wide_limit - l.best.den)
