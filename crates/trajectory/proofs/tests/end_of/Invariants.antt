use Rattle.std.proofs.Common.{◌≡◌, ◌∷◌, []}
use Rattle.task_types.specs.Touch.{trail_facts}
use Rattle.trajectory.specs.Following.{constraint_of, states_taken}
use Rattle.trajectory.proofs.tests.end_of.Given as goal

abbrev pub invariant-loop-first : goal.invariant-loop-first
invariant-loop-first l = (trail_facts (constraint_of l.automaton) ≡ 0 ∷ 1 ∷ []) × (states_taken l.automaton ≡ l.first-index)
