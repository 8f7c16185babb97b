-- Automata that follow constraints, one after the other, along one state more.
use Rattle.std.proofs.Common.{◌≡◌, sym, ap, subst, ◌∙◌, ℕ, zero, suc, ◌+◌, ◌<◌, ◌≤◌, Bool, true, List, [], ◌∷◌, ◌++◌, length, drop, length-append, arith}
use Rattle.std.specs.Prelude.{slice_index_or, slice_set}
use Rattle.std.specs.List.{AllByRecursion, list_all}
use Rattle.std.proofs.lemmas.List.{drop_more, drop-set-lt}
use Rattle.basics.proofs.Bools.{and_left, and_right}
use Rattle.task_types.specs.declared.parts.TaskParts.{TaskParts}
use Rattle.task_types.specs.Touch.{trail_facts}
use Rattle.task_types.specs.WellMade.{trail_fits}
use Rattle.trajectory.proofs.Covering.{tasks_are_covered}
use Rattle.task_types.specs.declared.constraints.Trail.{Trail}
use Rattle.task_types.specs.Trace.{Trace, Moment}
use Rattle.trajectory.specs.declared.automaton.Automaton.{Automaton}
use Rattle.trajectory.specs.Following.{Follows, constraint_of, states_taken}
use Rattle.plan_validator.specs.Following.{FollowsAlong, AreFollowing, HaveFollowed, AreBelow}

pub followed-next : (a b : Automaton) (further states : Trace) → ((c : Trail) → FollowsAlong c a states → FollowsAlong c b further) → (i : ℕ) (cs : List Trail) (xs : List Automaton) → i < length xs → a ≡ slice_index_or xs i a
    → HaveFollowed i cs xs further states → HaveFollowed (suc i) cs (slice_set xs i b) further states
followed-next a b further states step i cs [] h e f = absurd (omega (arith, h))
followed-next a b further states step zero [] (x ∷ xs) h e f = absurd f
followed-next a b further states step zero (c ∷ cs) (x ∷ xs) h e f = (step c (subst (λ (y : Automaton). FollowsAlong c y states) (sym e) f.0), f.1)
followed-next a b further states step (suc i) [] (x ∷ xs) h e f = absurd f
followed-next a b further states step (suc i) (c ∷ cs) (x ∷ xs) h e f = (f.0, followed-next a b further states step i cs xs (omega (arith, h)) e f.1)

pub followed-all : (further states : Trace) (i : ℕ) (cs : List Trail) (xs : List Automaton) → length xs ≤ i → HaveFollowed i cs xs further states → AreFollowing cs xs further
followed-all further states zero [] [] h f = tt
followed-all further states zero (c ∷ cs) [] h f = absurd f
followed-all further states zero cs (x ∷ xs) h f = absurd (omega (arith, h))
followed-all further states (suc i) [] [] h f = tt
followed-all further states (suc i) [] (x ∷ xs) h f = absurd f
followed-all further states (suc i) (c ∷ cs) [] h f = absurd f
followed-all further states (suc i) (c ∷ cs) (x ∷ xs) h f = (f.0, followed-all further states i cs xs (omega (arith, h)) f.1)

pub follows-on : (c : Trail) (a b : Automaton) (states : Trace) (m : Moment) → constraint_of b ≡ constraint_of a → states_taken b ≡ states_taken a + 1 → (Follows a states → Follows b (states ++ m ∷ [])) → FollowsAlong c a states → FollowsAlong c b (states ++ m ∷ [])
follows-on c a b states m e t f h = record {
  constraint = e ∙ h.constraint;
  taken = t ∙ ap (λ n. n + 1) h.taken ∙ sym (length-append states (m ∷ []));
  follows = f h.follows;
}

-- one constraint more is followed from the start
pub following-put : (cs : List Trail) (xs : List Automaton) (c : Trail) (a : Automaton) (states : Trace) → AreFollowing cs xs states → FollowsAlong c a states → AreFollowing (cs ++ c ∷ []) (xs ++ a ∷ []) states
following-put [] [] c a states f h = (h, tt)
following-put [] (x ∷ xs) c a states f h = absurd f
following-put (d ∷ cs) [] c a states f h = absurd f
following-put (d ∷ cs) (x ∷ xs) c a states f h = (f.0, following-put cs xs c a states f.1 h)

-- the constraints that are followed speak of the task's facts, and have taken so many states
pub follows-below : (task : TaskParts) (bs : List Bool) → length bs ≡ length task.facts → (cs : List Trail) (xs : List Automaton) (states : Trace) → AreFollowing cs xs states → list_all (trail_fits task) cs ≡ true
    → AllByRecursion (λ a. AreBelow (length task.facts) (trail_facts (constraint_of a))) xs
follows-below task bs n [] [] states f h = tt
follows-below task bs n [] (x ∷ xs) states f h = absurd f
follows-below task bs n (c ∷ cs) [] states f h = absurd f
follows-below task bs n (c ∷ cs) (x ∷ xs) states f h = (
  subst (λ (t : Trail). AreBelow (length task.facts) (trail_facts t)) (sym f.0.constraint) (subst (λ (k : ℕ). AreBelow k (trail_facts c)) n (tasks_are_covered.constraints task c bs (let l : length task.facts ≤ length bs = omega (arith, n) in l) (and_left _ _ h))),
  follows-below task bs n cs xs states f.1 (and_right _ _ h),
)

pub follows-taken : (cs : List Trail) (xs : List Automaton) (states : Trace) (n : ℕ) → length states < n → AreFollowing cs xs states → AllByRecursion (λ a. states_taken a < n) xs
follows-taken [] [] states n l f = tt
follows-taken [] (x ∷ xs) states n l f = absurd f
follows-taken (c ∷ cs) [] states n l f = absurd f
follows-taken (c ∷ cs) (x ∷ xs) states n l f = (subst (λ (k : ℕ). k < n) (sym f.0.taken) l, follows-taken cs xs states n l f.1)

-- ---- a list changed place by place

-- what holds of each element that is left holds of the next
pub each-there : {X : Type 0} (P : X → Type 0) (xs : List X) (i : ℕ) (x : X) → i < length xs → AllByRecursion P (drop i xs) → P (slice_index_or xs i x)
each-there P xs i x h a = (subst (AllByRecursion P) (drop_more xs i x h) a).0

-- and of those behind it, when it is changed
pub each-rest : {X : Type 0} (P : X → Type 0) (xs : List X) (i : ℕ) (x y : X) → i < length xs → AllByRecursion P (drop i xs) → AllByRecursion P (drop (i + 1) (slice_set xs i y))
each-rest P xs i x y h a = subst (AllByRecursion P) (sym (drop-set-lt (i + 1) xs i y (omega arith))) ((subst (AllByRecursion P) (drop_more xs i x h) a).1)
