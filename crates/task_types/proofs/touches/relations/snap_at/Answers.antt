use Rattle.task_types.specs.Plan.{no_snap}
use Rattle.task_types.proofs.Shown.{read_none}
use Rattle.task_types.proofs.touches.relations.snap_at.Goals as goal

pub returns-in-None : goal.returns-in-None
returns-in-None c = read_none c.args.parts.now.snaps c.args.id no_snap (rw c.number.ensures at c.in-None.ensures.value)
