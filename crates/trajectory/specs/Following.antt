-- Believed: which constraint an automaton follows, and along which states; its calls alone say what that means.
use Rattle.std.specs.Prelude.{ℕ, ◌≡◌, length}
use Rattle.task_types.specs.declared.constraints.Trail.{Trail}
use Rattle.task_types.specs.State.{tree_holds}
use Rattle.task_types.specs.Trace.{Trace, first_state}
use Rattle.trajectory.specs.declared.automaton.Automaton.{Automaton}
use Rattle.trajectory.specs.Passing.{first_flags, flags_after}

-- the constraint that an automaton follows
abbrev pub constraint_of : Automaton → Trail
constraint_of automaton = automaton.trail

-- how many states it has taken
abbrev pub states_taken : Automaton → ℕ
states_taken automaton = automaton.taken

-- An automaton has followed its constraint along these states, so it remembers of them what one pass leaves. Nobody
-- needs to trust this record: only `new` and `step` give it, and what it is good for are the clauses of `verdict` and
-- `first_step`. The times of the states are free.
pub record Follows (automaton : Automaton) (states : Trace) : Type 0 where
  pub taken : automaton.taken ≡ length states
  pub first : automaton.first ≡ first_state automaton.trail.first states
  pub flags : automaton.flags ≡ flags_after automaton.trail.kind (λ m. tree_holds automaton.trail.first m.facts) (λ m. tree_holds automaton.trail.second m.facts) (first_flags automaton.trail.kind) states
