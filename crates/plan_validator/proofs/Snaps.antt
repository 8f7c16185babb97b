-- The snap actions of a line of a plan of a well made task.
use Rattle.std.proofs.Common.{◌≡◌, refl, sym, ap, subst, ℕ, zero, suc, ◌+◌, ◌<◌, true, ◌&&◌, List, [], ◌∷◌, length, Option, Some, None, arith}
use Rattle.std.specs.Prelude.{slice_index_or}
use Rattle.basics.proofs.Bools.{and_left, and_right}
use Rattle.basics.proofs.Naturals.{same_out}
use Rattle.task_types.specs.declared.actions.Action.{Action}
use Rattle.task_types.specs.declared.actions.SnapKind.{SnapKind}
use Rattle.task_types.specs.declared.actions.SnapKind.TheVariants.{Start, End, Instant, Timed}
use Rattle.task_types.specs.declared.parts.TaskParts.{TaskParts}
use Rattle.task_types.specs.Plan.{action_of, snap_of, no_action, no_snap}
use Rattle.task_types.specs.WellMade.{IsWellMade, are_numbered, has_snaps, is_snap_of, is_number, same_kind, snap_count}
use Rattle.task_types.proofs.SnapTests.{snap_out}

-- a durative action has a start and an end, an instantaneous one its own snap action
pub data HasSnaps (task : TaskParts) (a : ℕ) : Type 0 where
  durative : (e : ℕ) → (action_of task a).end ≡ Some e → (snap_of task (action_of task a).start).kind ≡ Start → (snap_of task (action_of task a).start).action ≡ Some a
      → (snap_of task e).kind ≡ End → (snap_of task e).action ≡ Some a → HasSnaps task a
  at_once : (action_of task a).end ≡ None → (snap_of task (action_of task a).start).kind ≡ Instant → HasSnaps task a

module _ (task : TaskParts) where
  numbered-at : (n a : ℕ) (xs : List Action) → are_numbered task n a xs ≡ true → (i : ℕ) → i < length xs → has_snaps task (slice_index_or xs i no_action).start (a + i) (slice_index_or xs i no_action).end ≡ true
  numbered-at n a [] h i l = absurd (omega (arith, l))
  numbered-at n a (x ∷ xs) h zero l = subst (λ m. has_snaps task m (a + 0) x.end ≡ true) (sym (same_out x.start n (and_left _ _ (and_left _ _ h)))) (subst (λ b. has_snaps task n b x.end ≡ true) (let z : a ≡ a + 0 = omega arith in z) (and_right _ _ (and_left _ _ h)))
  numbered-at n a (x ∷ xs) h (suc i) l = subst (λ b. has_snaps task (slice_index_or xs i no_action).start b (slice_index_or xs i no_action).end ≡ true) (let z : a + 1 + i ≡ a + suc i = omega arith in z)
      (numbered-at (n + snap_count x) (a + 1) xs (and_right _ _ h) i (omega (arith, l)))

  pub has-snaps : IsWellMade task → (a : ℕ) → a < length task.actions → HasSnaps task a
  has-snaps w a l = go (action_of task a).end refl (subst (λ b. has_snaps task (action_of task a).start b (action_of task a).end ≡ true) (let z : 0 + a ≡ a = omega arith in z) (numbered-at 0 0 task.actions (and_right _ _ w.numbered) a l))
    where
      go : (o : Option ℕ) → (action_of task a).end ≡ o → has_snaps task (action_of task a).start a o ≡ true → HasSnaps task a
      go None e h = at_once e (snap_out task (action_of task a).start Instant a h).0
      go (Some m) e h = durative m e (snap_out task (action_of task a).start Start a (and_right _ _ (and_left _ _ h))).0 (snap_out task (action_of task a).start Start a (and_right _ _ (and_left _ _ h))).1
          (snap_out task m End a (and_right _ _ h)).0 (snap_out task m End a (and_right _ _ h)).1
