use Rattle.std.proofs.Common.{◌∙◌, [], ap, sym, subst}
use Rattle.std.specs.Prelude.{Bool}
use Rattle.std.specs.List.{flat_map}
use Rattle.exact_lin.specs.Reckoning.{wide_limit}
use Rattle.exact_lin.specs.Reckonings.{IsDefined}
use Rattle.basics.proofs.Lists.{each_left, each_right}
use Rattle.task_types.specs.Plan.{snap_of}
use Rattle.timed_meaning.specs.Answers.{told, Defined}
use Rattle.timed_meaning.proofs.Amounts.{append-in, part-fault}
use Rattle.plan_validator.specs.declared.readings.Reading.{Reading}
use Rattle.plan_validator.specs.Readings.{one_value, bounds_reckoned, fits_at}
use Rattle.plan_validator.proofs.StepReading.{read-is}
use Rattle.plan_validator.proofs.readings.read_step.Goals as goal

pub returns-in-Ok-fits_at : goal.returns-in-Ok-fits_at
returns-in-Ok-fits_at c = (
  subst Defined (read-is c.args.parts.now c.args.facts.now c.args.fluents.now c.args.step.now)
      (append-in (flat_map (one_value (told c.args.facts.now c.args.fluents.now)) (snap_of c.args.parts.now c.args.step.now.snap).condition.comparisons) (bounds_reckoned c.args.parts.now (told [] c.args.fluents.now) c.args.step.now) c.in-Ok.ensures.0 c.in-Ok-fits_at.ensures.0),
  ap (λ (f : Bool). let r : Reading = record { fits = f; ready = c.in-Ok.ready } in r) c.in-Ok-fits_at.ensures.1 ∙ ap (λ (b : Bool). let r : Reading = record { fits = fits_at c.args.parts.now c.args.rules.now (told [] c.args.fluents.now) c.args.step.now; ready = b } in r) c.in-Ok.ensures.1,
)

pub returns-in-Err-fits_at : goal.returns-in-Err-fits_at
returns-in-Err-fits_at c = part-fault c.in-Err-fits_at.fault _ _ _ _
    (λ d. each_right (IsDefined wide_limit) (flat_map (one_value (told c.args.facts.now c.args.fluents.now)) (snap_of c.args.parts.now c.args.step.now.snap).condition.comparisons) (bounds_reckoned c.args.parts.now (told [] c.args.fluents.now) c.args.step.now)
    (subst Defined (sym (read-is c.args.parts.now c.args.facts.now c.args.fluents.now c.args.step.now)) d)) c.in-Err-fits_at.ensures

pub returns-in-Err : goal.returns-in-Err
returns-in-Err c = part-fault c.in-Err.fault _ _ _ _
    (λ d. each_left (IsDefined wide_limit) (flat_map (one_value (told c.args.facts.now c.args.fluents.now)) (snap_of c.args.parts.now c.args.step.now.snap).condition.comparisons) (bounds_reckoned c.args.parts.now (told [] c.args.fluents.now) c.args.step.now)
    (subst Defined (sym (read-is c.args.parts.now c.args.facts.now c.args.fluents.now c.args.step.now)) d)) c.in-Err.ensures
