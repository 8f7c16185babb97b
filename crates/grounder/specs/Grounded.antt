-- Believed: what grounding answers, the task by its parts.
use Rattle.std.specs.Prelude.{Result, Ok, Err}
use Rattle.task_types.specs.declared.parts.TaskParts.{TaskParts}
use Rattle.task_types.specs.declared.task.Task.{Task}
use Rattle.grounder.specs.declared.faults.GroundFault.{GroundFault}

abbrev pub answer_of : Result Task GroundFault → Result TaskParts GroundFault
answer_of (Ok task) = Ok task.parts
answer_of (Err f) = Err f
