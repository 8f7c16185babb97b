use Rattle.plan_files.proofs.LineDuties.{line-taken}
use Rattle.plan_files.proofs.plans.take_line.Goals as goal

pub returns : goal.returns
returns c = line-taken c.args.names.now.task.now.parts c.args.plan.now c.push_parts.new.plan (c.args.number, c.args.line.now) c.in-Ok.parts c.in-Ok.ensures c.push_parts.result c.push_parts.ensures
