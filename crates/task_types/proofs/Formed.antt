-- The timed plan of an ordering is formed, since each snap action of a well made task is that of an action that has it.
use Rattle.std.proofs.Common.{◌≡◌, refl, sym, ap, subst, ℕ, zero, suc, ◌+◌, ◌<◌, ◌≤◌, true, false, ◌&&◌, List, [], ◌∷◌, ◌++◌, map, length, arith, Option, Some, None}
use Rattle.std.specs.Prelude.{slice_index_or, if◌then◌else◌, is_some, is_none, option_to_list}
use Rattle.std.specs.List.{flat_map, zip}
use Rattle.std.proofs.lemmas.List.Sums.{sum_by-cons}
use native.Mathlib.Decide.{dec_lt}
use Rattle.rational.specs.Rational.{ℚ}
use Rattle.basics.proofs.Bools.{and_left, and_right, and_in}
use Rattle.basics.proofs.Naturals.{same_out, lt_in}
use Rattle.task_types.specs.declared.actions.Action.{Action}
use Rattle.task_types.specs.declared.actions.Snap.{Snap}
use Rattle.task_types.specs.declared.actions.SnapKind.{SnapKind}
use Rattle.task_types.specs.declared.actions.SnapKind.TheVariants.{Start, End, Instant, Timed}
use Rattle.task_types.specs.declared.parts.TaskParts.{TaskParts}
use Rattle.task_types.specs.Plan.{Plan, IsFormed, action_of, snap_of, no_action, no_snap}
use Rattle.task_types.specs.Agreement.{begun, begun_lines, numbered, plan_of}
use Rattle.task_types.specs.Touch.{is_timed}
use Rattle.task_types.specs.Order.{Order}
use Rattle.task_types.specs.WellMade.{IsWellMade, are_numbered, are_timed, has_snaps, is_snap_of, is_number, same_kind, snap_count, snap_total}
use Rattle.task_types.proofs.Assigning.{at_read}
use Rattle.task_types.proofs.SnapTests.{timed_out, snap_out}

-- a snap action is timed, or its action is one of the task that is durative where the snap action is no instantaneous
-- one
pub data IsOwned (task : TaskParts) (s : Snap) : Type 0 where
  timed : s.kind ≡ Timed → IsOwned task s
  started : (a : ℕ) → s.kind ≡ Start → s.action ≡ Some a → a < length task.actions → is_some (action_of task a).end ≡ true → IsOwned task s
  ended : (a : ℕ) → s.kind ≡ End → s.action ≡ Some a → a < length task.actions → is_some (action_of task a).end ≡ true → IsOwned task s
  at_once : (a : ℕ) → s.kind ≡ Instant → s.action ≡ Some a → a < length task.actions → is_none (action_of task a).end ≡ true → IsOwned task s

-- what a durative action's numbers say
has_both : (task : TaskParts) (n a m : ℕ) → has_snaps task n a (Some m) ≡ true → (m ≡ n + 1) × (is_snap_of task n Start a ≡ true) × (is_snap_of task m End a ≡ true)
has_both task n a m h = (same_out m (n + 1) (and_left _ _ (and_left _ _ h)), and_right _ _ (and_left _ _ h), and_right _ _ h)

owned_start : (task : TaskParts) (n a s : ℕ) → a < length task.actions → is_some (action_of task a).end ≡ true → is_snap_of task n Start a ≡ true → s ≡ n → IsOwned task (snap_of task s)
owned_start task n a s l d h e = subst (λ m. IsOwned task (snap_of task m)) (sym e) (started a (snap_out task n Start a h).0 (snap_out task n Start a h).1 l d)

owned_end : (task : TaskParts) (n a s : ℕ) → a < length task.actions → is_some (action_of task a).end ≡ true → is_snap_of task n End a ≡ true → s ≡ n → IsOwned task (snap_of task s)
owned_end task n a s l d h e = subst (λ m. IsOwned task (snap_of task m)) (sym e) (ended a (snap_out task n End a h).0 (snap_out task n End a h).1 l d)

owned_once : (task : TaskParts) (n a s : ℕ) → a < length task.actions → is_none (action_of task a).end ≡ true → is_snap_of task n Instant a ≡ true → s ≡ n → IsOwned task (snap_of task s)
owned_once task n a s l d h e = subst (λ m. IsOwned task (snap_of task m)) (sym e) (at_once a (snap_out task n Instant a h).0 (snap_out task n Instant a h).1 l d)

-- a snap action of one action
owned_here : (task : TaskParts) (a n s : ℕ) (o : Option ℕ) → a < length task.actions → (action_of task a).end ≡ o → has_snaps task n a o ≡ true → n ≤ s → s < n + (if is_some o then 2 else 1) → IsOwned task (snap_of task s)
owned_here task a n s None l q h low high = owned_once task n a s l (ap is_none q) h (omega arith)
owned_here task a n s (Some m) l q h low high =
    let both = has_both task n a m h in
    elim (dec_lt n s) [ yes p ↦ owned_end task m a s l (ap is_some q) both.2 (omega (arith, both.0)) | no p ↦ owned_start task n a s l (ap is_some q) both.1 (omega arith) ]

-- the snap actions of a list of actions
owned : (task : TaskParts) (a n s : ℕ) (xs : List Action) → ((j : ℕ) → j < length xs → (action_of task (a + j) ≡ slice_index_or xs j no_action) × (a + j < length task.actions)) → are_numbered task n a xs ≡ true → n ≤ s → s < n + snap_total xs → IsOwned task (snap_of task s)
owned task a n s [] look h low high = absurd (omega arith)
owned task a n s (x ∷ xs) look h low high = elim (dec_lt s (n + snap_count x)) [
  | yes p ↦ owned_here task a n s x.end (omega (arith, (look 0 (omega arith)).1)) (ap (λ (y : Action). y.end) (subst (λ k. action_of task k ≡ x) (add_zero a) (look 0 (omega arith)).0)) (and_right _ _ (and_left _ _ h)) low p
  | no p ↦ owned task (a + 1) (n + snap_count x) s xs (λ j l. (subst (λ k. action_of task k ≡ slice_index_or xs j no_action) (shift j) (look (suc j) (omega arith)).0, subst (λ k. k < length task.actions) (shift j) (look (suc j) (omega arith)).1)) (and_right _ _ h) (omega arith) (omega (arith, more))
]
  where
    more : snap_total (x ∷ xs) ≡ snap_count x + snap_total xs
    more = sum_by-cons (λ n. n) (snap_count x) (map snap_count xs)

    add_zero : (k : ℕ) → k + 0 ≡ k
    add_zero k = omega arith

    shift : (j : ℕ) → a + suc j ≡ a + 1 + j
    shift j = omega arith

-- the timed steps
timed_owned : (task : TaskParts) (n s : ℕ) (ts : List (ℚ × ℕ)) → are_timed task n ts ≡ true → n ≤ s → s < n + length ts → IsOwned task (snap_of task s)
timed_owned task n s [] h low high = absurd (omega arith)
timed_owned task n s (t ∷ ts) h low high = elim (dec_lt n s) [
  | yes p ↦ timed_owned task (n + 1) s ts (and_right _ _ h) (omega arith) (omega arith)
  | no p ↦ subst (λ m. IsOwned task (snap_of task m)) (same p) (timed (timed_out _ (and_left _ _ (at_read (λ s. is_timed s.kind && is_none s.action) no_snap task.snaps n (and_right _ _ (and_left _ _ h))))))
]
  where
    same : (n < s → ⊥) → n ≡ s
    same p = omega arith

past_end : {X : Type 0} (xs : List X) (k : ℕ) (d : X) → length xs ≤ k → slice_index_or xs k d ≡ d
past_end [] k d h = refl
past_end (x ∷ xs) zero d h = absurd (omega arith)
past_end (x ∷ xs) (suc k) d h = past_end xs k d (omega arith)

-- each snap action of a well made task
pub snap-owned : (task : TaskParts) → IsWellMade task → (s : ℕ) → IsOwned task (snap_of task s)
snap-owned task w s = elim (dec_lt s (snap_total task.actions)) [
  | yes p ↦ owned task 0 0 s task.actions (λ j l. (ap (action_of task) (zero_add j), subst (λ k. k < length task.actions) (sym (zero_add j)) l)) (and_right _ _ w.numbered) (omega arith) (omega arith)
  | no p ↦ elim (dec_lt s (length task.snaps)) [
    | yes q ↦ timed_owned task (snap_total task.actions) s task.timed (and_right _ _ (and_left _ _ w.timed)) (omega arith) (omega (arith, all_snaps))
    | no q ↦ timed (ap (λ (x : Snap). x.kind) (past_end task.snaps s no_snap (omega arith)))
  ]
]
  where
    zero_add : (k : ℕ) → 0 + k ≡ k
    zero_add k = omega arith

    all_snaps : length task.snaps ≡ snap_total task.actions + length task.timed
    all_snaps = same_out _ _ (and_left _ _ w.numbered)

-- the line that a step begins is formed
begun_formed : (task : TaskParts) (s : Snap) (t : ℚ) (later : List (ℕ × ℚ)) → IsOwned task s → IsFormed task (flat_map (λ a. begun task s.kind a t later) (option_to_list s.action))
begun_formed task s t later (timed e) = rw e (none (option_to_list s.action))
  where
    none : (xs : List ℕ) → IsFormed task (flat_map (λ a. []) xs)
    none [] = refl
    none (x ∷ xs) = none xs
begun_formed task s t later (started a k e l d) = rw (k, e) (and_in _ _ (and_in _ _ (lt_in a (length task.actions) l) (rw d refl)) refl)
begun_formed task s t later (ended a k e l d) = rw (k, e) refl
begun_formed task s t later (at_once a k e l d) = rw (k, e) (and_in _ _ (and_in _ _ (lt_in a (length task.actions) l) (without (action_of task a).end d)) refl)
  where
    without : (o : Option ℕ) → is_none o ≡ true → (if is_some o then false else true) ≡ true
    without None e = refl
    without (Some x) e = cc

append_formed : (task : TaskParts) (xs ys : Plan) → IsFormed task xs → IsFormed task ys → IsFormed task (xs ++ ys)
append_formed task [] ys h k = k
append_formed task (x ∷ xs) ys h k = and_in _ _ (and_left _ _ h) (append_formed task xs ys (and_right _ _ h) k)

begun_lines_formed : (task : TaskParts) → IsWellMade task → (ps : List (ℕ × ℚ)) → IsFormed task (begun_lines task ps)
begun_lines_formed task w [] = refl
begun_lines_formed task w (p ∷ ps) = append_formed task _ (begun_lines task ps) (begun_formed task (snap_of task p.0) p.1 ps (snap-owned task w p.0)) (begun_lines_formed task w ps)

numbered_formed : (task : TaskParts) (n : ℕ) (ls : Plan) → IsFormed task ls → IsFormed task (numbered n ls)
numbered_formed task n [] h = refl
numbered_formed task n (l ∷ ls) h = and_in _ _ (and_left _ _ h) (numbered_formed task (n + 1) ls (and_right _ _ h))

pub plan_of-formed : (task : TaskParts) (o : Order) (times : List ℚ) → IsWellMade task → IsFormed task (plan_of task o times)
unfolding plan_of
plan_of-formed task o times w = numbered_formed task 1 (begun_lines task (zip o.steps times)) (begun_lines_formed task w (zip o.steps times))
