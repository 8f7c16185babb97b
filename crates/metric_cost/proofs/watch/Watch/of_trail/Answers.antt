use Rattle.std.proofs.Common.{refl}
use Rattle.metric_cost.proofs.Meeting.{met-none}
use Rattle.metric_cost.proofs.watch.Watch.of_trail.Goals as goal

pub returns-in-Within : goal.returns-in-Within
returns-in-Within c = (c.in-Within.is, met-none c.args.trail.now c.in-Within.is)
