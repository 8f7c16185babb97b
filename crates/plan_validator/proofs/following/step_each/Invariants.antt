use Rattle.std.proofs.Common.{List, [], ◌∷◌, ◌++◌, ◌<◌, ◌-◌, ◌^◌, drop}
use Rattle.std.specs.List.{AllByRecursion}
use Rattle.rational.specs.Rational.{ℚ}
use Rattle.task_types.specs.declared.constraints.Trail.{Trail}
use Rattle.task_types.specs.Touch.{trail_facts}
use Rattle.task_types.specs.Trace.{Trace}
use Rattle.trajectory.specs.Facts.{AreCovered, moment_of}
use Rattle.trajectory.specs.Following.{constraint_of, states_taken}
use Rattle.plan_validator.specs.Following.{AreFollowing, HaveFollowed}
use Rattle.plan_validator.proofs.following.step_each.Given as goal

abbrev pub invariant-loop-i : goal.invariant-loop-i
invariant-loop-i l = record {
  followed : (hard : List Trail) (states : Trace) (time : ℚ) → AreFollowing hard l.fn.automata states → HaveFollowed l.i hard l.automata (states ++ moment_of l.facts time ∷ []) states;
  covered : AllByRecursion (λ a. AreCovered (trail_facts (constraint_of a)) l.facts) (drop l.i l.automata);
  room : AllByRecursion (λ a. states_taken a < 2 ^ 32 - 1) (drop l.i l.automata);
}
