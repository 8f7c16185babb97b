use Rattle.std.proofs.Common.{◌∙◌, ap, sym}
use Rattle.std.specs.List.{list_any}
use Rattle.task_types.specs.Sets.{is_in, meet}
use Rattle.task_types.specs.Clash.{form_fluents, written_fluents}
use Rattle.plan_validator.proofs.Meets.{any-flat_map}
use Rattle.plan_validator.proofs.disturbing.condition_written.Goals as goal

pub returns : goal.returns
returns c = c.forms_written.ensures ∙ ap (list_any (λ e. meet (form_fluents e) (written_fluents c.args.by.now))) c.as_slice.ensures
    ∙ sym (any-flat_map (λ x. is_in x (written_fluents c.args.by.now)) form_fluents c.args.snap.now.condition.comparisons)
