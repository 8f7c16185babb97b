use Rattle.std.proofs.Common.{◌≡◌, drop}
use Rattle.ground_world.specs.Expressions.{sum_forms}
use Rattle.ground_world.proofs.sums.sum_forms.Given as goal

abbrev pub invariant-loop-form : goal.invariant-loop-form
invariant-loop-form l = sum_forms l.sum (drop l.form-index l.others) ≡ sum_forms l.first l.others
