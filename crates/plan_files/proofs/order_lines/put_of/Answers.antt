use Rattle.plan_files.proofs.order_lines.put_of.Goals as goal

pub returns-in-Pair : goal.returns-in-Pair
returns-in-Pair c = rw c.in-Pair.is (c.paired.ensures c.args.names.now.task.now.parts)
