-- Believed: a sweep is before or after a happening of a plan; a reader needs only what its calls say where this holds.
use Rattle.std.specs.Prelude.{◌≡◌, ◌++◌, suc, List, take}
use Rattle.task_types.specs.declared.parts.TaskParts.{TaskParts}
use Rattle.task_types.specs.Plan.{Plan}
use Rattle.task_types.specs.Course.{state_before, state_after}
use Rattle.timed_meaning.specs.declared.sweeps.Sweep.{Sweep}
use Rattle.timed_meaning.specs.declared.steps.OwnedStep.{OwnedStep}
use Rattle.timed_meaning.specs.Agendas.{IsAt, owned_here_of}
use Rattle.timed_meaning.specs.Standings.{shown, IsKept}

-- It holds the state before the happening of its place.
pub record IsBefore (task : TaskParts) (plan : Plan) (s : Sweep) : Type 0 where
  pub at : IsAt task plan s.agenda
  pub kept : IsKept task s.standing
  pub state : shown s.standing ≡ state_before task plan s.agenda.place

-- It holds the state after that happening.
pub record IsAfter (task : TaskParts) (plan : Plan) (s : Sweep) : Type 0 where
  pub at : IsAt task plan s.agenda
  pub kept : IsKept task s.standing
  pub state : shown s.standing ≡ state_after task plan s.agenda.place

-- It still has what belongs to that happening, and holds the state before the next.
pub record IsBetween (task : TaskParts) (plan : Plan) (s : Sweep) : Type 0 where
  pub at : IsAt task plan s.agenda
  pub kept : IsKept task s.standing
  pub state : shown s.standing ≡ state_before task plan (suc s.agenda.place)

-- the steps of the happenings before its own, and those of its own, with their owners
abbrev pub steps_met : Sweep → List OwnedStep
steps_met s = take s.agenda.first s.agenda.owned.items

abbrev pub steps_here : Sweep → List OwnedStep
steps_here s = owned_here_of s.agenda

-- It goes on along the same steps and lines, having met the steps of the happening that it leaves.
pub record GoesOn (old new : Sweep) : Type 0 where
  pub met : steps_met new ≡ steps_met old ++ steps_here old
  pub same : new.agenda.owned ≡ old.agenda.owned
  pub lines : new.agenda.lines ≡ old.agenda.lines
