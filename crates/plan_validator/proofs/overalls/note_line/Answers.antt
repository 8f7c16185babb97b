use Rattle.std.proofs.Common.{sym, subst, length}
use Rattle.std.specs.List.{AllByRecursion}
use Rattle.exact_lin.specs.Forms.{Covers}
use Rattle.task_types.specs.declared.conditions.Condition.{Condition}
use Rattle.plan_validator.specs.Segments.{over_all_of}
use Rattle.plan_validator.proofs.Covered.{over_all-covered}
use Rattle.plan_validator.proofs.overalls.note_line.Goals as goal

pub holds-requires : goal.holds-requires
holds-requires c = subst (λ (k : Condition). AllByRecursion (λ e. Covers (length c.args.fluents.now) e.terms) k.comparisons) (sym c.over_all.ensures)
    (subst (λ n. AllByRecursion (λ e. Covers n e.terms) (over_all_of c.args.parts.now c.args.placed.now).comparisons) (sym c.requires.covered) (over_all-covered c.args.parts.now c.requires.well_made c.args.placed.now.line.action c.requires.known))
