use Rattle.std.proofs.Common.{◌∙◌, ap, sym, subst, length}
use Rattle.std.specs.List.{AllByRecursion, flat_map}
use Rattle.exact_lin.specs.Forms.{Covers}
use Rattle.task_types.specs.declared.actions.Snap.{Snap}
use Rattle.task_types.specs.Clash.{own_action}
use Rattle.task_types.specs.Plan.{snap_of}
use Rattle.plan_validator.proofs.Covered.{bounds-covered}
use Rattle.plan_validator.proofs.readings.fits_at.Goals as goal

pub read_bounds-requires : goal.read_bounds-requires
read_bounds-requires c = subst (AllByRecursion (λ b. Covers (length c.args.fluents.now) b.form.terms)) (sym (c.own_bounds.ensures ∙ ap (λ (s : Snap). flat_map (λ a. a.bounds) (own_action c.args.parts.now s)) c.snap-snap.ensures))
    (subst (λ n. AllByRecursion (λ b. Covers n b.form.terms) (flat_map (λ a. a.bounds) (own_action c.args.parts.now (snap_of c.args.parts.now c.args.step.now.snap)))) (sym c.requires.covered) (bounds-covered c.args.parts.now c.requires.well_made c.args.step.now.snap))
