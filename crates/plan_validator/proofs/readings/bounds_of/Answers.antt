use Rattle.std.proofs.Common.{◌≡◌, sym, ap, subst, None}
use Rattle.std.specs.Prelude.{slice_get}
use Rattle.plan_validator.proofs.StepReading.{none-action}
use Rattle.plan_validator.proofs.readings.bounds_of.Goals as goal

pub returns-in-None : goal.returns-in-None
returns-in-None c = sym (ap (λ a. a.bounds) (none-action c.args.parts.now.actions c.args.action (subst (λ k. None ≡ slice_get c.args.parts.now.actions k) c.number.ensures c.in-None.ensures.value)))
