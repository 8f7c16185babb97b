use Rattle.std.proofs.Common.{sym, ◌∙◌}
use Rattle.grounder.proofs.WellMade.{made_tasks-well_made}
use Rattle.grounder.proofs.tasks.ground.Goals as goal

pub whole-requires : goal.whole-requires
whole-requires c = made_tasks-well_made c.args.domain.now c.args.problem.now c.in-Ok-Ok.parts c.requires.accepted (sym c.in-Ok-Ok.ensures ∙ c.in-Ok-Ok.field-0-is)
