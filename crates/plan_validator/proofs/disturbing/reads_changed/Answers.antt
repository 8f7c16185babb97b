use Rattle.std.proofs.Common.{◌∙◌, ap, sym}
use Rattle.std.specs.List.{list_any}
use Rattle.task_types.specs.Sets.{is_in}
use Rattle.task_types.specs.Clash.{changed_facts}
use Rattle.plan_validator.proofs.Meets.{any-map}
use Rattle.plan_validator.proofs.disturbing.reads_changed.Goals as goal

pub returns : goal.returns
returns c = c.literals_changed.ensures ∙ ap (list_any (λ l. is_in l.fact (changed_facts c.args.other.now))) c.as_slice.ensures
    ∙ sym (any-map (λ x. is_in x (changed_facts c.args.other.now)) (λ l. l.fact) c.args.one.now.condition.literals)
