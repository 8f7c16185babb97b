use Rattle.std.proofs.Common.{◌≡◌, drop}
use Rattle.ground_world.specs.Expressions.{product_forms}
use Rattle.ground_world.proofs.sums.product_forms.Given as goal

abbrev pub invariant-loop-form : goal.invariant-loop-form
invariant-loop-form l = product_forms l.product (drop l.form-index l.others) ≡ product_forms l.first l.others
