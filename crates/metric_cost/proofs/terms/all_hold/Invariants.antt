use Rattle.std.proofs.Common.{drop}
use Rattle.exact_lin.specs.Forms.{values_of}
use Rattle.metric_cost.proofs.Holding.{HoldSoFar}
use Rattle.metric_cost.proofs.terms.all_hold.Given as goal

abbrev pub invariant-loop-form : goal.invariant-loop-form
invariant-loop-form l = HoldSoFar (values_of l.fluents) l.forms l.all (drop l.form-index l.forms)
