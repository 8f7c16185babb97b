use Rattle.std.proofs.Common.{◌≡◌, sym, subst, length}
use Rattle.std.specs.List.{AllByRecursion, flat_map}
use Rattle.exact_lin.specs.Forms.{Covers}
use Rattle.task_types.specs.declared.actions.Snap.{Snap}
use Rattle.task_types.specs.Plan.{snap_of}
use Rattle.task_types.specs.State.{holds}
use Rattle.timed_meaning.specs.Answers.{told, Tells}
use Rattle.plan_validator.specs.Readings.{one_value}
use Rattle.plan_validator.proofs.Covered.{snap-covered}
use Rattle.plan_validator.proofs.readings.is_ready.Goals as goal

pub holds-requires : goal.holds-requires
holds-requires c = subst (λ (s : Snap). AllByRecursion (λ e. Covers (length c.args.fluents.now) e.terms) s.condition.comparisons) (sym c.snap.ensures)
    (subst (λ n. AllByRecursion (λ e. Covers n e.terms) (snap_of c.args.parts.now c.args.step.now.snap).condition.comparisons) (sym c.requires.covered) (snap-covered c.args.parts.now c.requires.well_made c.args.step.now.snap))

pub returns : goal.returns
returns c = subst (λ (s : Snap). Tells c.holds.result (flat_map (one_value (told c.args.facts.now c.args.fluents.now)) s.condition.comparisons) (λ b. b ≡ holds s.condition (told c.args.facts.now c.args.fluents.now))) c.snap.ensures c.holds.ensures
