use Rattle.std.proofs.Common.{◌≡◌, ◌∙◌, ap, refl, inl, Some, None}
use Rattle.std.specs.Prelude.{option_map}
use Rattle.plan_files.specs.OrderFiles.{Step}
use Rattle.plan_files.proofs.OrderDuties.{timed-read}
use Rattle.plan_files.proofs.order_lines.timed.Goals as goal

pub returns-in-Some : goal.returns-in-Some
returns-in-Some c = timed-read c.args.task.now.parts c.args.task.now.well_made c.args.number c.args.moment.now c.in-Some.moment c.step.result (c.in-Some.ensures.spells, c.in-Some.ensures.fits)
    (c.step.ensures ∙ ap (option_map Step) c.timed_at.ensures)

pub returns-in-None : goal.returns-in-None
returns-in-None c = inl ((λ m. let e : None ≡ Some m.0 = c.in-None.ensures.read m.0 m.1.0 m.1.1 in cc), refl)
