use Rattle.std.proofs.Common.{◌∙◌, sym, ap, map}
use Rattle.std.specs.Prelude.{option_to_list}
use Rattle.std.specs.List.{flat_map}
use Rattle.std.proofs.lemmas.List.{append-nil}
use Rattle.task_types.specs.Plan.{action_of}
use Rattle.plan_validator.proofs.readings.own_bounds.Goals as goal

pub returns-in-Some : goal.returns-in-Some
returns-in-Some c = c.bounds_of.ensures ∙ sym (append-nil (action_of c.args.parts.now c.in-Some.action).bounds) ∙ ap (λ o. flat_map (λ a. a.bounds) (map (action_of c.args.parts.now) (option_to_list o))) (sym c.in-Some.is)
