use Rattle.std.proofs.Common.{◌∙◌}
use Rattle.ordering.proofs.RunningActions.{meet_at_place}
use Rattle.ordering.proofs.running.runs.Goals as goal

pub returns-in-Some : goal.returns-in-Some
returns-in-Some c = c.is_some.ensures ∙ meet_at_place c.args.step.now.action c.args.running.now c.in-Some.action c.place_of.result c.in-Some.is c.place_of.ensures
