use Rattle.std.proofs.Common.{◌∙◌, ap, sym}
use Rattle.std.specs.List.{list_any, flat_map, filter}
use Rattle.task_types.specs.Sets.{is_in, meet}
use Rattle.task_types.specs.Clash.{form_fluents, is_read_at, own_action, written_fluents}
use Rattle.plan_validator.specs.Clashes.{bound_written}
use Rattle.plan_validator.proofs.Meets.{any-flat_map, any-filter}
use Rattle.plan_validator.proofs.disturbing.bounds_written.Goals as goal

pub returns : goal.returns
returns c = c.each_bound_written.ensures ∙ ap (list_any (bound_written c.args.snap.now.kind (written_fluents c.args.by.now))) c.own_bounds.ensures
    ∙ sym (any-flat_map (λ x. is_in x (written_fluents c.args.by.now)) (λ b. form_fluents b.form) (filter (is_read_at c.args.snap.now.kind) (flat_map (λ a. a.bounds) (own_action c.args.parts.now c.args.snap.now)))
    ∙ any-filter (λ b. meet (form_fluents b.form) (written_fluents c.args.by.now)) (is_read_at c.args.snap.now.kind) (flat_map (λ a. a.bounds) (own_action c.args.parts.now c.args.snap.now)))
