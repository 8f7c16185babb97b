use Rattle.std.proofs.Common.{sym}
use Rattle.plan_files.proofs.NameLists.{fit-lengths}
use Rattle.plan_files.proofs.names.fit.Goals as goal

pub returns-then-objects-params : goal.returns-then-objects-params
returns-then-objects-params c = sym (fit-lengths c.args.objects.now c.args.params.now c.if-objects-params.true)
