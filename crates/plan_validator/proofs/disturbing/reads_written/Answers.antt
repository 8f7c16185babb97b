use Rattle.std.proofs.Common.{◌∙◌, ◌++◌, ap, sym}
use Rattle.std.specs.Prelude.{◌||◌}
use Rattle.std.specs.List.{flat_map}
use Rattle.task_types.specs.Sets.{meet}
use Rattle.task_types.specs.Clash.{form_fluents, condition_fluents, read_bounds, written_fluents}
use Rattle.plan_validator.proofs.Meets.{meet-either}
use Rattle.plan_validator.proofs.disturbing.reads_written.Goals as goal

pub returns : goal.returns
returns c = c.either.ensures ∙ ap (λ b. b || c.bounds_written.result) (c.either-own.ensures ∙ ap (λ b. b || c.effects_written.result) c.condition_written.ensures
    ∙ ap (λ b. meet (condition_fluents c.args.one.now.condition) (written_fluents c.args.other.now) || b) c.effects_written.ensures
    ∙ sym (meet-either (condition_fluents c.args.one.now.condition) (flat_map (λ e. form_fluents e.1.form) (c.args.one.now.effect.assigns ++ c.args.one.now.effect.increases)) (written_fluents c.args.other.now)))
    ∙ ap (λ b. meet (condition_fluents c.args.one.now.condition ++ flat_map (λ e. form_fluents e.1.form) (c.args.one.now.effect.assigns ++ c.args.one.now.effect.increases)) (written_fluents c.args.other.now) || b) c.bounds_written.ensures
    ∙ sym (meet-either (condition_fluents c.args.one.now.condition ++ flat_map (λ e. form_fluents e.1.form) (c.args.one.now.effect.assigns ++ c.args.one.now.effect.increases)) (flat_map (λ b. form_fluents b.form) (read_bounds c.args.parts.now c.args.one.now)) (written_fluents c.args.other.now))
