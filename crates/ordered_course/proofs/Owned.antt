-- The snap actions of a well made task are those of its actions, each of one.
use Rattle.std.proofs.Common.{◌≡◌, refl, sym, ap, subst, ◌∙◌, ℕ, zero, suc, ◌+◌, ◌<◌, ◌≤◌, Bool, true, false, ◌&&◌, List, [], ◌∷◌, map, fold, length, arith, inl, inr, Option, Some, None}
use Rattle.std.proofs.lemmas.Option.{same_Some}
use Rattle.std.specs.Prelude.{◌==◌, ◌⊎◌, slice_index_or, if◌then◌else◌, is_some, is_none}
use Rattle.rational.specs.Rational.{ℚ}
use Rattle.task_types.specs.declared.actions.Action.{Action}
use Rattle.task_types.specs.declared.actions.Snap.{Snap}
use Rattle.task_types.specs.declared.actions.SnapKind.{SnapKind}
use Rattle.task_types.specs.declared.actions.SnapKind.TheVariants.{Start, End, Instant, Timed}
use Rattle.task_types.specs.declared.parts.TaskParts.{TaskParts}
use Rattle.task_types.specs.Plan.{no_action, no_snap, action_of, snap_of}
use Rattle.task_types.specs.Trace.{at}
use Rattle.task_types.specs.Touch.{is_timed}
use Rattle.task_types.specs.WellMade.{IsWellMade, same_kind, is_number, is_snap_of, has_snaps, are_numbered, are_timed, snap_count, snap_total}
use Rattle.basics.proofs.Bools.{and_left, and_right}
use Rattle.basics.proofs.Naturals.{same_out}
use Rattle.task_types.proofs.Assigning.{at_read}
use Rattle.task_types.proofs.SnapTests.{timed_out, snap_out}
use Rattle.ordered_course.proofs.Listed.{AreOwned}

-- ---- what one number says

pub record IsSnap (task : TaskParts) (n : ℕ) (k : SnapKind) (a : ℕ) : Type 0 where
  pub kind : (snap_of task n).kind ≡ k
  pub action : (snap_of task n).action ≡ Some a

-- kind Timed or an action that isn't there: what stands past the end has no action
snap_is : (task : TaskParts) (n : ℕ) (k : SnapKind) (a : ℕ) → is_snap_of task n k a ≡ true → IsSnap task n k a
snap_is task n k a h = record { kind = (snap_out task n k a h).0; action = (snap_out task n k a h).1 }

-- ---- which action a number belongs to

-- snap action s is that of action a, whose parts x are
abbrev pub Belongs : TaskParts → ℕ → Action → ℕ → Type 0
Belongs task s x a = (IsSnap task s Instant a × ((x.start ≡ s) × (x.end ≡ None)))
    ⊎ ((IsSnap task s Start a × ((x.start ≡ s) × ((e : ℕ) × (x.end ≡ Some e))))
    ⊎ (IsSnap task s End a × (x.end ≡ Some s)))

-- what the numbering says of the first action
record First (task : TaskParts) (n a : ℕ) (x : Action) (xs : List Action) : Type 0 where
  start : x.start ≡ n
  snaps : has_snaps task n a x.end ≡ true
  rest : are_numbered task (n + snap_count x) (a + 1) xs ≡ true

first_of_all : (task : TaskParts) (n a : ℕ) (x : Action) (xs : List Action) → are_numbered task n a (x ∷ xs) ≡ true → First task n a x xs
first_of_all task n a x xs h = record { start = same_out x.start n (and_left _ _ (and_left _ _ h)); snaps = and_right _ _ (and_left _ _ h); rest = and_right _ _ h }

one_action : (task : TaskParts) (n a s : ℕ) (x : Action) → x.start ≡ n → (o : Option ℕ) → x.end ≡ o → has_snaps task n a o ≡ true → n ≤ s → s < n + (if is_some o then 2 else 1) → Belongs task s x a
one_action task n a s x st None e h l r = let q : s ≡ n = omega (arith, l, r) in inl (subst (λ m. IsSnap task m Instant a) (sym q) (snap_is task n Instant a h), (st ∙ sym q, e))
one_action task n a s x st (Some t) e h l r = go (s == n) refl
  where
    next : (s n : ℕ) → (s == n) ≡ false → n ≤ s → s < n + 2 → s ≡ n + 1
    next s n q l r = grind (arith, q, l, r)

    ends : t ≡ n + 1
    ends = same_out t (n + 1) (and_left _ _ (and_left _ _ h))

    go : (b : Bool) → (s == n) ≡ b → Belongs task s x a
    go true q = let m : s ≡ n = same_out s n q in inr (inl (subst (λ k. IsSnap task k Start a) (sym m) (snap_is task n Start a (and_right _ _ (and_left _ _ h))), (st ∙ sym m, (t, e))))
    go false q = let m : s ≡ t = next s n q l r ∙ sym ends in inr (inr (subst (λ k. IsSnap task k End a) (sym m) (snap_is task t End a (and_right _ _ h)), e ∙ ap Some (sym m)))

-- counts of snap actions are added from the left
folded : (ns : List ℕ) (q r : ℕ) → fold (λ a b. a + b) (q + r) ns ≡ q + fold (λ a b. a + b) r ns
folded [] q r = refl
folded (n ∷ ns) q r = let e : (q + r) + n ≡ q + (r + n) = omega arith in ap (λ k. fold (λ a b. a + b) k ns) e ∙ folded ns q (r + n)

total_first : (x : Action) (xs : List Action) → snap_total (x ∷ xs) ≡ snap_count x + snap_total xs
total_first x xs = let e : 0 + snap_count x ≡ snap_count x + 0 = omega arith in ap (λ k. fold (λ a b. a + b) k (map snap_count xs)) e ∙ folded (map snap_count xs) (snap_count x) 0

owner_in : (task : TaskParts) (xs : List Action) (n a s : ℕ) → are_numbered task n a xs ≡ true → n ≤ s → s < n + snap_total xs → (i : ℕ) × Belongs task s (slice_index_or xs i no_action) (a + i)
owner_in task [] n a s h l r = absurd (omega (arith, l, r))
owner_in task (x ∷ xs) n a s h l r = go (before s (n + snap_count x)) (λ m. owner_in task xs (n + snap_count x) (a + 1) s (first_of_all task n a x xs h).rest m (within m))
  where
    before : (s t : ℕ) → (s < t) ⊎ (t ≤ s)
    before s t = grind arith

    within : n + snap_count x ≤ s → s < (n + snap_count x) + snap_total xs
    within m = let e : snap_total (x ∷ xs) ≡ snap_count x + snap_total xs = total_first x xs in omega (arith, r, e)

    here : s < n + snap_count x → (i : ℕ) × Belongs task s (slice_index_or (x ∷ xs) i no_action) (a + i)
    here m = let e : a ≡ a + 0 = omega arith in (0, subst (λ b. Belongs task s x b) e (one_action task n a s x (first_of_all task n a x xs h).start x.end refl (first_of_all task n a x xs h).snaps l m))

    shifted : (a i : ℕ) → (a + 1) + i ≡ a + suc i
    shifted a i = omega arith

    go : (s < n + snap_count x) ⊎ (n + snap_count x ≤ s) → (n + snap_count x ≤ s → (i : ℕ) × Belongs task s (slice_index_or xs i no_action) ((a + 1) + i)) → (i : ℕ) × Belongs task s (slice_index_or (x ∷ xs) i no_action) (a + i)
    go (inl m) f = here m
    go (inr m) f = let o = f m in (suc o.0, subst (λ b. Belongs task s (slice_index_or xs o.0 no_action) b) (shifted a o.0) o.1)

-- the end of each action is a snap action of it
end_in : (task : TaskParts) (xs : List Action) (n a i e : ℕ) → are_numbered task n a xs ≡ true → (slice_index_or xs i no_action).end ≡ Some e → IsSnap task e End (a + i)
end_in task [] n a i e h k = let c : None ≡ Some e = k in cc
end_in task (x ∷ xs) n a zero e h k =
    let s : has_snaps task n a (Some e) ≡ true = subst (λ o. has_snaps task n a o ≡ true) k (first_of_all task n a x xs h).snaps in
    let z : a ≡ a + 0 = omega arith in
    subst (λ b. IsSnap task e End b) z (snap_is task e End a (and_right _ _ s))
end_in task (x ∷ xs) n a (suc i) e h k = let z : (a + 1) + i ≡ a + suc i = omega arith in subst (λ b. IsSnap task e End b) z (end_in task xs (n + snap_count x) (a + 1) i e (first_of_all task n a x xs h).rest k)

-- ---- all snap actions

-- snap actions past those of the actions are timed, and so are those past the end
timed_in : (task : TaskParts) (us : List (ℚ × ℕ)) (n s : ℕ) → are_timed task n us ≡ true → n ≤ s → s < n + length us → (snap_of task s).kind ≡ Timed
timed_in task [] n s h l r = absurd (omega (arith, l, r))
timed_in task (u ∷ us) n s h l r = go (s == n) refl (λ m k. timed_in task us (n + 1) s (and_right _ _ h) m k)
  where
    here : is_timed (snap_of task n).kind ≡ true
    here = and_left (is_timed (snap_of task n).kind) (is_none (snap_of task n).action) (at_read (λ s. is_timed s.kind && is_none s.action) no_snap task.snaps n (and_right (u.1 == n) (at task.snaps n (λ s. is_timed s.kind && is_none s.action)) (and_left (u.1 == n && at task.snaps n (λ s. is_timed s.kind && is_none s.action)) (are_timed task (n + 1) us) h)))

    above : (s n : ℕ) → (s == n) ≡ false → n ≤ s → n + 1 ≤ s
    above s n e l = grind (arith, e, l)

    shorter : (s n m : ℕ) → s < n + suc m → s < (n + 1) + m
    shorter s n m r = omega (arith, r)

    go : (b : Bool) → (s == n) ≡ b → (n + 1 ≤ s → s < (n + 1) + length us → (snap_of task s).kind ≡ Timed) → (snap_of task s).kind ≡ Timed
    go true e f = subst (λ k. (snap_of task k).kind ≡ Timed) (sym (same_out s n e)) (timed_out (snap_of task n).kind here)
    go false e f = f (above s n e l) (shorter s n (length us) r)

past_end : (snaps : List Snap) (s : ℕ) → length snaps ≤ s → slice_index_or snaps s no_snap ≡ no_snap
past_end [] s h = refl
past_end (x ∷ xs) zero h = absurd (omega arith)
past_end (x ∷ xs) (suc s) h = past_end xs s (omega arith)

not_timed : (k l : SnapKind) → k ≡ Timed → k ≡ l → is_timed l ≡ false → ⊥
not_timed k l e f n = let c : true ≡ false = ap is_timed (sym e ∙ f) ∙ n in cc

module _ (task : TaskParts) (numbered : are_numbered task 0 0 task.actions ≡ true) (timed : are_timed task (snap_total task.actions) task.timed ≡ true) (long : length task.snaps ≡ snap_total task.actions + length task.timed) where
  -- a snap action that isn't timed belongs to an action
  belongs : (s : ℕ) (k : SnapKind) → (snap_of task s).kind ≡ k → is_timed k ≡ false → (a : ℕ) × Belongs task s (action_of task a) a
  belongs s k e n = go (place s (snap_total task.actions)) (place s (snap_total task.actions + length task.timed))
    where
      place : (s t : ℕ) → (s < t) ⊎ (t ≤ s)
      place s t = grind arith

      own : s < snap_total task.actions → (a : ℕ) × Belongs task s (action_of task a) a
      own l = let z : s < 0 + snap_total task.actions = omega (arith, l) in let o = owner_in task task.actions 0 0 s numbered (omega arith) z in
          let i : 0 + o.0 ≡ o.0 = omega arith in (o.0, subst (λ b. Belongs task s (slice_index_or task.actions o.0 no_action) b) i o.1)

      go : (s < snap_total task.actions) ⊎ (snap_total task.actions ≤ s) → (s < snap_total task.actions + length task.timed) ⊎ (snap_total task.actions + length task.timed ≤ s) → (a : ℕ) × Belongs task s (action_of task a) a
      go (inl l) r = own l
      go (inr l) (inl r) = absurd (not_timed (snap_of task s).kind k (timed_in task task.timed (snap_total task.actions) s timed l r) e n)
      go (inr l) (inr r) = absurd (not_timed (snap_of task s).kind k (ap (λ x. x.kind) (past_end task.snaps s (omega (arith, r, long)))) e n)

  end_of : (a e : ℕ) → (action_of task a).end ≡ Some e → IsSnap task e End a
  end_of a e k = let z : 0 + a ≡ a = omega arith in subst (λ b. IsSnap task e End b) z (end_in task task.actions 0 0 a e numbered k)

  start_of : (s a b : ℕ) → (snap_of task s).kind ≡ Start → (snap_of task s).action ≡ Some a → Belongs task s (action_of task b) b → ((action_of task a).start ≡ s) × ((e : ℕ) × ((action_of task a).end ≡ Some e))
  start_of s a b k o (inl h) = absurd (clash (sym k ∙ h.0.kind))
    where
      clash : Start ≡ Instant → ⊥
      clash c = cc
  start_of s a b k o (inr (inl h)) = subst (λ c. ((action_of task c).start ≡ s) × ((e : ℕ) × ((action_of task c).end ≡ Some e))) (same_Some b a (sym h.0.action ∙ o)) h.1
  start_of s a b k o (inr (inr h)) = absurd (clash (sym k ∙ h.0.kind))
    where
      clash : Start ≡ End → ⊥
      clash c = cc

  ends_at : (s a b : ℕ) → (snap_of task s).kind ≡ End → (snap_of task s).action ≡ Some a → Belongs task s (action_of task b) b → (action_of task a).end ≡ Some s
  ends_at s a b k o (inl h) = absurd (clash (sym k ∙ h.0.kind))
    where
      clash : End ≡ Instant → ⊥
      clash c = cc
  ends_at s a b k o (inr (inl h)) = absurd (clash (sym k ∙ h.0.kind))
    where
      clash : End ≡ Start → ⊥
      clash c = cc
  ends_at s a b k o (inr (inr h)) = subst (λ c. (action_of task c).end ≡ Some s) (same_Some b a (sym h.0.action ∙ o)) h.1

  once : (s a b : ℕ) → (snap_of task s).kind ≡ Instant → (snap_of task s).action ≡ Some a → Belongs task s (action_of task b) b → ((action_of task a).start ≡ s) × ((action_of task a).end ≡ None)
  once s a b k o (inl h) = subst (λ c. ((action_of task c).start ≡ s) × ((action_of task c).end ≡ None)) (same_Some b a (sym h.0.action ∙ o)) h.1
  once s a b k o (inr (inl h)) = absurd (clash (sym k ∙ h.0.kind))
    where
      clash : Instant ≡ Start → ⊥
      clash c = cc
  once s a b k o (inr (inr h)) = absurd (clash (sym k ∙ h.0.kind))
    where
      clash : Instant ≡ End → ⊥
      clash c = cc

  pub owned_by : AreOwned task
  owned_by = record {
    starts = λ s a k o. let b = belongs s Start k refl in start_of s a b.0 k o b.1;
    ends = λ s a k o. let b = belongs s End k refl in ends_at s a b.0 k o b.1;
    instants = λ s a k o. let b = belongs s Instant k refl in once s a b.0 k o b.1;
    own_end = λ a b s h k. same_Some a b (sym (end_of a s h).action ∙ (end_of b s k).action);
    end_kind = λ a s h. (end_of a s h).kind;
  }

-- In a well made task each snap action is that of one action, as its place there says.
pub are_owned : (task : TaskParts) → IsWellMade task → AreOwned task
are_owned task w = owned_by task (and_right _ _ w.numbered) (and_right _ _ (and_left _ _ w.timed)) (same_out _ _ (and_left _ _ w.numbered))
