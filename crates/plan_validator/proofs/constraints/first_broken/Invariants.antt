use Rattle.std.proofs.Common.{◌+◌, drop}
use Rattle.basics.proofs.Duties.{ComesDownTo}
use Rattle.task_types.specs.Trace.{Trace}
use Rattle.trajectory.specs.Laws.{NeverFall}
use Rattle.plan_validator.specs.Kinds.{constraint_duties}
use Rattle.plan_validator.specs.Following.{AreFollowing, HaveTimes}
use Rattle.plan_validator.proofs.constraints.first_broken.Given as goal

abbrev pub invariant-loop-i : goal.invariant-loop-i
invariant-loop-i l = (states : Trace) → AreFollowing l.hard l.automata states → HaveTimes states l.times → NeverFall states → ComesDownTo (constraint_duties states 1 l.hard) (constraint_duties states (1 + l.i) (drop l.i l.hard))
