use Rattle.std.proofs.Common.{◌∙◌, ap}
use Rattle.task_types.specs.Course.{state_before}
use Rattle.timed_meaning.proofs.Showing.{shows}
use Rattle.timed_meaning.proofs.reaching.state_before.Goals as goal

pub returns-in-Ok : goal.returns-in-Ok
returns-in-Ok c = (c.in-Ok.ensures.0, shows c.args.task.now.parts c.in-Ok.sweep.standing c.into_state.result _ c.in-Ok.ensures.1.kept (c.in-Ok.ensures.1.state ∙ ap (state_before c.args.task.now.parts c.args.plan.now) c.in-Ok.ensures.2) c.into_state.ensures)
