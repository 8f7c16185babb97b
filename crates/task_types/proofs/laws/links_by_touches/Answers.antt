use Rattle.task_types.proofs.Meetings.{links_by_touches as by_touches}
use Rattle.task_types.proofs.laws.links_by_touches.Goals as goal

pub returns : goal.returns
returns c = by_touches
