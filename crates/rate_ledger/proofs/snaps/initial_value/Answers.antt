use Rattle.std.proofs.Common.{◌∙◌}
use Rattle.rate_ledger.proofs.Lists.{initial_there, initial_past}
use Rattle.rate_ledger.proofs.snaps.initial_value.Goals as goal

pub returns-in-Some : goal.returns-in-Some
returns-in-Some c = initial_there c.args.task.now.parts c.args.fluent c.fluents.result.now c.number.result c.in-Some.fluent.now c.fluents.ensures c.number.ensures c.in-Some.ensures.lookup.3.0 c.in-Some.ensures.lookup.1

pub returns-in-None : goal.returns-in-None
returns-in-None c = c.of_int.ensures ∙ initial_past c.args.task.now.parts c.args.fluent c.fluents.result.now c.number.result c.fluents.ensures c.number.ensures c.in-None.ensures.lookup.3
