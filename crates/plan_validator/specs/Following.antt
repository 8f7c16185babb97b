-- Private: automata that follow the hard constraints of a task along the states of a trace.
use Rattle.std.specs.Prelude.{ℕ, zero, suc, ◌≡◌, Bool, false, ◌<◌, List, [], ◌∷◌, length, map, All}
use Rattle.rational.specs.Rational.{ℚ, zeroℚ}
use Rattle.task_types.specs.Tests.{◌≤?◌}
use Rattle.task_types.specs.declared.constraints.Trail.{Trail}
use Rattle.task_types.specs.Trace.{Trace}
use Rattle.trajectory.specs.declared.automaton.Automaton.{Automaton}
use Rattle.trajectory.specs.Following.{Follows, constraint_of, states_taken}

-- an automaton follows a constraint along some states
pub record FollowsAlong (c : Trail) (a : Automaton) (states : Trace) : Type 0 where
  pub constraint : constraint_of a ≡ c
  pub taken : states_taken a ≡ length states
  pub follows : Follows a states

-- each automaton follows its constraint
abbrev pub AreFollowing : List Trail → List Automaton → Trace → Type 0
AreFollowing [] [] states = Unit {0}
AreFollowing [] (a ∷ more) states = ⊥
AreFollowing (c ∷ cs) [] states = ⊥
AreFollowing (c ∷ cs) (a ∷ more) states = FollowsAlong c a states × AreFollowing cs more states

-- the first n automata have followed further states than the others
abbrev pub HaveFollowed : ℕ → List Trail → List Automaton → (further states : Trace) → Type 0
HaveFollowed zero cs automata further states = AreFollowing cs automata states
HaveFollowed (suc n) [] [] further states = Unit {0}
HaveFollowed (suc n) [] (a ∷ more) further states = ⊥
HaveFollowed (suc n) (c ∷ cs) [] further states = ⊥
HaveFollowed (suc n) (c ∷ cs) (a ∷ more) further states = FollowsAlong c a further × HaveFollowed n cs more further states

-- a state of some number has one of these times, which isn't past a moment
abbrev pub is_soon : ℚ → List ℚ → ℕ → Bool
is_soon moment [] k = false
is_soon moment (t ∷ ts) zero = t ≤? moment
is_soon moment (t ∷ ts) (suc k) = is_soon moment ts k

-- the times of states: 0 at first, then those of the happenings
abbrev pub HaveTimes : Trace → List ℚ → Type 0
HaveTimes states times = map (λ m. m.time) states ≡ zeroℚ ∷ times

-- some facts are below a number
abbrev pub AreBelow : ℕ → List ℕ → Type 0
AreBelow n facts = All (λ f. f < n) facts
