use Rattle.std.proofs.Common.{◌≡◌, ◌<◌, sym, subst}
use Rattle.task_types.specs.declared.parts.TaskParts.{TaskParts}
use Rattle.task_types.specs.Plan.{Plan}
use Rattle.task_types.specs.Course.{count}
use Rattle.timed_meaning.specs.ExampleTask.{going, going_once}
use Rattle.timed_meaning.proofs.Going.{two_happenings}
use Rattle.timed_meaning.proofs.tests.goes.Goals as goal

two : (task : TaskParts) (plan : Plan) → task ≡ going → plan ≡ going_once → 1 < count task plan
two task plan e f = subst (λ (t : TaskParts). 1 < count t plan) (sym e) (subst (λ (p : Plan). 1 < count going p) (sym f) two_happenings)

pub has_states-requires-clause-two : goal.has_states-requires-clause-two
has_states-requires-clause-two c = two c.args.task.now.parts c.in-Ok.plan c.requires c.in-Ok.ensures.1

pub is_swept-requires-clause-two : goal.is_swept-requires-clause-two
is_swept-requires-clause-two c = two c.args.task.now.parts c.in-Ok.plan c.requires c.in-Ok.ensures.1
