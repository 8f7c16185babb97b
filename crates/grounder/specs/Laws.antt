-- Believed: what is claimed of ground tasks.
use Rattle.std.specs.Prelude.{◌≡◌, Ok}
use Rattle.pddl_terms.specs.declared.files.Domain.{Domain}
use Rattle.pddl_terms.specs.declared.files.Problem.{Problem}
use Rattle.task_types.specs.declared.parts.TaskParts.{TaskParts}
use Rattle.task_types.specs.WellMade.{IsWellMade}
use Rattle.grounder.specs.Answer.{ground_answer}
use Rattle.grounder.specs.Accepted.{IsAccepted}

-- The task that is made of an accepted domain and problem fits together.
abbrev pub MadeTasksAreWellMade : Type 0
MadeTasksAreWellMade = (d : Domain) (p : Problem) (task : TaskParts) → IsAccepted d p → ground_answer d p ≡ Ok task → IsWellMade task
