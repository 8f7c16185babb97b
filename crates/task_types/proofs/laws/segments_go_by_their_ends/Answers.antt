use Rattle.task_types.proofs.Segment.{segment}
use Rattle.task_types.proofs.laws.segments_go_by_their_ends.Goals as goal

pub returns : goal.returns
returns c = segment
