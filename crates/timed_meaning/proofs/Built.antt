-- The lines of a plan that is built for a task are of its actions.
use Rattle.std.proofs.Common.{◌≡◌, true, [], ◌∷◌, length}
use Rattle.std.specs.List.{list_all}
use Rattle.basics.proofs.Bools.{and_left, and_right}
use Rattle.basics.proofs.Naturals.{lt_out}
use Rattle.task_types.specs.declared.parts.TaskParts.{TaskParts}
use Rattle.task_types.specs.Plan.{Plan, is_formed}
use Rattle.timed_meaning.specs.Moves.{AreLines}

pub lines-known : (task : TaskParts) (plan : Plan) → list_all (is_formed task) plan ≡ true → AreLines task plan
lines-known task [] h = tt
lines-known task (l ∷ ls) h = (lt_out l.action (length task.actions) (and_left _ _ (and_left _ _ h)), lines-known task ls (and_right _ _ h))
