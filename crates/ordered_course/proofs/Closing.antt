-- A closed list of steps closes what it starts, whatever its times are.
use Rattle.std.proofs.Common.{◌≡◌, refl, sym, subst, ◌∙◌, ℕ, ◌<◌, true, false, ◌||◌, List, [], ◌∷◌, ◌++◌, length, arith, append_assoc, length-append, Option, Some, None}
use Rattle.std.specs.Prelude.{not, slice_index, option_to_list, take}
use Rattle.std.specs.List.{zip}
use Rattle.std.proofs.Math.Seq.{take-append_seam, get_or-append_seam}
use Rattle.std.proofs.lemmas.List.Sums.{fold-append}
use Rattle.rational.specs.Rational.{ℚ}
use Rattle.basics.proofs.Bools.{not_true, or_false, or_false_left}
use Rattle.task_types.specs.declared.actions.SnapKind.{SnapKind}
use Rattle.task_types.specs.declared.actions.SnapKind.TheVariants.{Start, End, Instant, Timed}
use Rattle.task_types.specs.declared.parts.TaskParts.{TaskParts}
use Rattle.task_types.specs.Sets.{is_in, meet}
use Rattle.task_types.specs.Plan.{snap_of}
use Rattle.task_types.specs.Order.{run_on, running, may_follow}
use Rattle.ordered_course.proofs.Listed.{MayCome, Closes}
use Rattle.std.proofs.lemmas.List.{append-nil}

-- every snap action that isn't timed has an action
abbrev pub HaveActions : TaskParts → Type 0
HaveActions task = (s : ℕ) → (snap_of task s).action ≡ None → (snap_of task s).kind ≡ Timed

-- what may follow may come
may_come : (task : TaskParts) (pre : List ℕ) (s : ℕ) (k : SnapKind) (o : Option ℕ) → (snap_of task s).action ≡ o → (o ≡ None → k ≡ Timed) → may_follow task pre s k ≡ true → MayCome k o (running task pre)
may_come task pre s Start None e t h = absurd (clash (t refl))
  where
    clash : Start ≡ Timed → ⊥
    clash c = cc
may_come task pre s End None e t h = absurd (clash (t refl))
  where
    clash : End ≡ Timed → ⊥
    clash c = cc
may_come task pre s Instant None e t h = absurd (clash (t refl))
  where
    clash : Instant ≡ Timed → ⊥
    clash c = cc
may_come task pre s Timed None e t h = tt
may_come task pre s Start (Some a) e t h = or_false_left (is_in a (running task pre)) false (not_true (is_in a (running task pre) || false) (subst (λ o. not (meet (option_to_list o) (running task pre)) ≡ true) e h))
may_come task pre s End (Some a) e t h = sym (or_false (is_in a (running task pre))) ∙ (subst (λ o. meet (option_to_list o) (running task pre) ≡ true) e h)
may_come task pre s Instant (Some a) e t h = tt
may_come task pre s Timed (Some a) e t h = tt

module _ (task : TaskParts) (have : HaveActions task) where
  pub closes : (pre suf : List ℕ) (ts : List ℚ) → length ts ≡ length suf
      → ((k : ℕ) → k < length (pre ++ suf) → may_follow task (take k (pre ++ suf)) (slice_index (pre ++ suf) k) (snap_of task (slice_index (pre ++ suf) k)).kind ≡ true)
      → running task (pre ++ suf) ≡ [] → Closes task (running task pre) (zip suf ts)
  closes pre [] ts l f r = subst (λ xs. running task xs ≡ []) (append-nil pre) r
  closes pre (s ∷ suf) [] l f r = absurd (omega (arith, l))
  closes pre (s ∷ suf) (t ∷ ts) l f r = (
    may_come task pre s (snap_of task s).kind (snap_of task s).action refl (λ e. have s e) here,
    subst (λ xs. Closes task xs (zip suf ts)) next (closes (pre ++ s ∷ []) suf ts (omega (arith, l)) (subst (λ xs. (k : ℕ) → k < length xs → may_follow task (take k xs) (slice_index xs k) (snap_of task (slice_index xs k)).kind ≡ true) (sym joined) f) (subst (λ xs. running task xs ≡ []) (sym joined) r)),
  )
    where
      joined : (pre ++ s ∷ []) ++ suf ≡ pre ++ s ∷ suf
      joined = append_assoc pre (s ∷ []) suf

      next : running task (pre ++ s ∷ []) ≡ run_on (snap_of task s).kind (option_to_list (snap_of task s).action) (running task pre)
      next = fold-append (λ actions s. run_on (snap_of task s).kind (option_to_list (snap_of task s).action) actions) [] pre (s ∷ [])

      before : take (length pre) (pre ++ s ∷ suf) ≡ pre
      before = take-append_seam pre (s ∷ suf)

      itself : slice_index (pre ++ s ∷ suf) (length pre) ≡ s
      itself = get_or-append_seam pre s suf 0

      shorter : length pre < length (pre ++ s ∷ suf)
      shorter = omega (arith, length-append pre (s ∷ suf))

      here : may_follow task pre s (snap_of task s).kind ≡ true
      here = subst (λ n. may_follow task pre n (snap_of task n).kind ≡ true) itself (subst (λ xs. may_follow task xs (slice_index (pre ++ s ∷ suf) (length pre)) (snap_of task (slice_index (pre ++ s ∷ suf) (length pre))).kind ≡ true) before (f (length pre) shorter))
