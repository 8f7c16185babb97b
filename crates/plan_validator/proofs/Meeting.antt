-- What automata tell of the constraints of a task.
use Rattle.std.proofs.Common.{◌≡◌, refl, sym, ap, subst, ◌∙◌, ℕ, zero, suc, ◌+◌, ◌<◌, ◌≤◌, false, List, [], ◌∷◌, length, map, drop, arith}
use Rattle.std.specs.Prelude.{slice_index_or}
use Rattle.std.proofs.lemmas.List.{drop_more}
use Rattle.rational.specs.Rational.{ℚ}
use Rattle.task_types.specs.declared.constraints.Trail.{Trail}
use Rattle.task_types.specs.Tests.{◌≤?◌}
use Rattle.task_types.specs.Trace.{Trace, at}
use Rattle.trajectory.specs.declared.automaton.Automaton.{Automaton}
use Rattle.plan_validator.specs.Following.{FollowsAlong, AreFollowing, is_soon}
use Rattle.plan_validator.specs.Kinds.{constraint_duties, constraint_duty}

pub soon-at : (moment : ℚ) (states : Trace) (k : ℕ) → at states k (λ m. m.time ≤? moment) ≡ is_soon moment (map (λ m. m.time) states) k
soon-at moment [] k = refl
soon-at moment (m ∷ ms) zero = refl
soon-at moment (m ∷ ms) (suc k) = soon-at moment ms k

pub following-at : (cs : List Trail) (xs : List Automaton) (states : Trace) (i : ℕ) (c : Trail) (a : Automaton) → AreFollowing cs xs states → i < length cs → c ≡ slice_index_or cs i c → a ≡ slice_index_or xs i a → FollowsAlong c a states
following-at [] xs states i c a f h e g = absurd (omega (arith, h))
following-at (d ∷ cs) [] states i c a f h e g = absurd f
following-at (d ∷ cs) (x ∷ xs) states zero c a f h e g = subst (λ (t : Trail). FollowsAlong t a states) (sym e) (subst (λ (y : Automaton). FollowsAlong d y states) (sym g) f.0)
following-at (d ∷ cs) (x ∷ xs) states (suc i) c a f h e g = following-at cs xs states i c a f.1 (omega (arith, h)) e g

pub following-there : (cs : List Trail) (xs : List Automaton) (states : Trace) (i : ℕ) → AreFollowing cs xs states → i < length cs → length xs ≤ i → ⊥
following-there [] xs states i f h g = omega (arith, h)
following-there (d ∷ cs) [] states i f h g = f
following-there (d ∷ cs) (x ∷ xs) states zero f h g = omega (arith, g)
following-there (d ∷ cs) (x ∷ xs) states (suc i) f h g = following-there cs xs states i f.1 (omega (arith, h)) (omega (arith, g))

-- a time of a place
pub soon-there : (moment : ℚ) (ts : List ℚ) (k : ℕ) (d : ℚ) → k < length ts → is_soon moment ts k ≡ (slice_index_or ts k d ≤? moment)
soon-there moment [] k d h = absurd (omega (arith, h))
soon-there moment (t ∷ ts) zero d h = refl
soon-there moment (t ∷ ts) (suc k) d h = soon-there moment ts k d (omega (arith, h))

pub soon-past : (moment : ℚ) (ts : List ℚ) (k : ℕ) → length ts ≤ k → is_soon moment ts k ≡ false
soon-past moment [] k h = refl
soon-past moment (t ∷ ts) zero h = absurd (omega (arith, h))
soon-past moment (t ∷ ts) (suc k) h = soon-past moment ts k (omega (arith, h))

-- the duties from a place on
pub constraints-onward : (states : Trace) (cs : List Trail) (i : ℕ) (c : Trail) → i < length cs → c ≡ slice_index_or cs i c → constraint_duties states (1 + i) (drop i cs) ≡ constraint_duty states (1 + i, c) ∷ constraint_duties states (1 + (i + 1)) (drop (i + 1) cs)
constraints-onward states cs i c h e = ap (constraint_duties states (1 + i)) (drop_more cs i c h ∙ ap (λ d. d ∷ drop (i + 1) cs) (sym e))
    ∙ ap (λ n. constraint_duty states (1 + i, c) ∷ constraint_duties states n (drop (i + 1) cs)) (let z : 1 + i + 1 ≡ 1 + (i + 1) = omega arith in z)
