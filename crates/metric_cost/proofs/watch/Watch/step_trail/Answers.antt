use Rattle.std.proofs.Common.{subst}
use Rattle.trajectory.specs.Facts.{moment_of}
use Rattle.metric_cost.specs.declared.watch.Watch.{Watch}
use Rattle.metric_cost.specs.Watching.{WatchesTrail}
use Rattle.metric_cost.proofs.Meeting.{met-now, met-still}
use Rattle.metric_cost.proofs.watch.Watch.step_trail.Goals as goal

pub returns-then-is_soon : goal.returns-then-is_soon
returns-then-is_soon c states h =
    let was = subst (λ (w : Watch). WatchesTrail c.args.trail.now w states) c.in-Soon.is h in
    (was.0, met-now c.args.trail.now states (moment_of c.args.facts.now c.args.time) c.is_soon.result was.0 c.is_soon.ensures c.if-is_soon.true)

pub returns-else-is_soon : goal.returns-else-is_soon
returns-else-is_soon c states h =
    let was = subst (λ (w : Watch). WatchesTrail c.args.trail.now w states) c.in-Soon.is h in
    (was.0, met-still c.args.trail.now states (moment_of c.args.facts.now c.args.time) c.in-Soon.is_met c.is_soon.result was.0 c.is_soon.ensures c.if-is_soon.false was.1)
