-- The slopes that a list carries are the rates of the actions that run.
use Rattle.std.proofs.Common.{◌≡◌, refl, sym, ap, ap₂, subst, ◌∙◌, ℕ, zero, suc, ◌<◌, ◌≤◌, Bool, true, false, cond, not, ◌||◌, ◌==◌, List, [], ◌∷◌, ◌++◌, length, arith, Option, Some, None}
use Rattle.std.specs.Prelude.{slice_index, option_to_list, take}
use Rattle.std.specs.List.{filter, flat_map}
use Rattle.std.proofs.Math.Seq.{take-suc}
use Rattle.std.proofs.lemmas.List.{append-nil}
use Rattle.std.proofs.lemmas.List.Concat.{flat_map-append}
use Rattle.rational.specs.Rational.{ℚ, zeroℚ, oneℚ, neg_ℚ, ◌+ℚ◌, ◌*ℚ◌}
use Rattle.rational.proofs.Ring.{law, num, minus, ◌⊕◌, ◌⊗◌, ◌≐◌}
use Rattle.rational.proofs.Field.{ℚ_ring}
use Rattle.basics.proofs.Bools.{and_left, and_right, or_false, not_true}
use Rattle.basics.proofs.Naturals.{same_out}
use Rattle.task_types.specs.declared.actions.SnapKind.{SnapKind}
use Rattle.task_types.specs.declared.actions.SnapKind.TheVariants.{Start, End, Instant, Timed}
use Rattle.task_types.specs.declared.parts.TaskParts.{TaskParts}
use Rattle.task_types.specs.Tests.{total}
use Rattle.task_types.specs.Sets.{is_in, meet, are_distinct}
use Rattle.task_types.specs.Plan.{action_of, snap_of}
use Rattle.task_types.specs.Course.{entries_of}
use Rattle.task_types.specs.Touch.{is_start_or_end}
use Rattle.task_types.specs.Order.{run_on, running, may_follow}
use Rattle.task_types.proofs.StepCounts.{other_way, without, nothing_lost}
use Rattle.task_types.proofs.StepCounts as counts
use Rattle.task_types.proofs.Values.{total-append}
use Rattle.ordering.specs.Along.{sign, turn}
use Rattle.ordering.proofs.RunningActions.{distinct_on}
use Rattle.ordering.proofs.Swapping.{new_slope}
use Rattle.rate_ledger.specs.Entries.{snap_at}
use Rattle.rate_ledger.specs.Carrying.{timed_step, carried_by, Follow}
use Rattle.rate_ledger.proofs.Meaning.{RatesRun}

-- ---- what is summed over a list, with one more and one less

module _ (G : ℕ → List ℚ) where
  one_more : (xs : List ℕ) (a : ℕ) → total (flat_map G (xs ++ a ∷ [])) ≡ total (flat_map G xs) +ℚ total (G a)
  one_more xs a = ap total (flat_map-append G xs (a ∷ [])) ∙ total-append (flat_map G xs) (G a ++ []) ∙ ap (λ l. total (flat_map G xs) +ℚ total l) (append-nil (G a))

  one_less : (a : ℕ) (xs : List ℕ) → are_distinct xs ≡ true → is_in a xs ≡ true → total (flat_map G (without a xs)) +ℚ total (G a) ≡ total (flat_map G xs)
  one_less a [] h k = let c : false ≡ true = k in cc
  one_less a (x ∷ xs) h k = go (x == a) refl k (one_less a xs (and_right (not (is_in x xs)) (are_distinct xs) h))
    where
      absent : x ≡ a → is_in a xs ≡ false
      absent e = subst (λ y. is_in y xs ≡ false) e (not_true (is_in x xs) (and_left (not (is_in x xs)) (are_distinct xs) h))

      go : (b : Bool) → (x == a) ≡ b → (b || is_in a xs) ≡ true → (is_in a xs ≡ true → total (flat_map G (without a xs)) +ℚ total (G a) ≡ total (flat_map G xs))
          → total (flat_map G (cond (not ((a == x) || false)) (x ∷ without a xs) (without a xs))) +ℚ total (G a) ≡ total (G x ++ flat_map G xs)
      go true e k r = ap (λ c. total (flat_map G (cond (not (c || false)) (x ∷ without a xs) (without a xs))) +ℚ total (G a)) (other_way a x ∙ e)
          ∙ ap (λ l. total (flat_map G l) +ℚ total (G a)) (nothing_lost a xs (absent (same_out x a e)))
          ∙ ap (λ y. total (flat_map G xs) +ℚ total (G y)) (sym (same_out x a e))
          ∙ law ℚ_ring (total (G x) ∷ total (flat_map G xs) ∷ []) (λ g s. s ⊕ g ≐ g ⊕ s) refl
          ∙ sym (total-append (G x) (flat_map G xs))
      go false e k r = ap (λ c. total (flat_map G (cond (not (c || false)) (x ∷ without a xs) (without a xs))) +ℚ total (G a)) (other_way a x ∙ e)
          ∙ ap (λ q. q +ℚ total (G a)) (total-append (G x) (flat_map G (without a xs)))
          ∙ law ℚ_ring (total (G x) ∷ total (flat_map G (without a xs)) ∷ total (G a) ∷ []) (λ g s a. (g ⊕ s) ⊕ a ≐ g ⊕ (s ⊕ a)) refl
          ∙ ap (λ q. total (G x) +ℚ q) (r k)
          ∙ sym (total-append (G x) (flat_map G xs))

-- ---- one step

module _ (task : TaskParts) (f : ℕ) where
  abbrev rates_on : ℕ → List ℚ
  rates_on a = entries_of f (snap_of task (action_of task a).start).rates

  -- what a step turns, by its kind and its action
  abbrev turned_by : SnapKind → Option ℕ → ℚ
  turned_by kind o = sign kind *ℚ total (entries_of f (flat_map (λ a. (snap_of task (action_of task a).start).rates) (filter (λ a. is_start_or_end kind) (option_to_list o))))

  own : (a : ℕ) → total (entries_of f ((snap_of task (action_of task a).start).rates ++ [])) ≡ total (rates_on a)
  own a = ap (λ l. total (entries_of f l)) (append-nil (snap_of task (action_of task a).start).rates)

  still : (q s : ℚ) → q ≡ q +ℚ zeroℚ *ℚ s
  still q s = law ℚ_ring (q ∷ s ∷ []) (λ q s. q ≐ q ⊕ num 0 ⊗ s) refl

  one_step : (kind : SnapKind) (o : Option ℕ) (r : List ℕ) → are_distinct r ≡ true → (kind ≡ End → meet (option_to_list o) r ≡ true)
      → total (flat_map rates_on (run_on kind (option_to_list o) r)) ≡ total (flat_map rates_on r) +ℚ turned_by kind o
  one_step Start None r d h = ap (λ l. total (flat_map rates_on l)) (append-nil r) ∙ law ℚ_ring (total (flat_map rates_on r) ∷ []) (λ q. q ≐ q ⊕ num 1 ⊗ num 0) refl
  one_step Start (Some a) r d h = one_more rates_on r a ∙ ap (λ q. total (flat_map rates_on r) +ℚ q) (sym (own a)) ∙ law ℚ_ring (total (flat_map rates_on r) ∷ total (entries_of f ((snap_of task (action_of task a).start).rates ++ [])) ∷ []) (λ q s. q ⊕ s ≐ q ⊕ num 1 ⊗ s) refl
  one_step End None r d h = let c : false ≡ true = h refl in cc
  one_step End (Some a) r d h = law ℚ_ring (total (flat_map rates_on (without a r)) ∷ total (rates_on a) ∷ []) (λ q g. q ≐ (q ⊕ g) ⊕ minus (num 1) ⊗ g) refl
      ∙ ap₂ (λ (q g : ℚ). q +ℚ neg_ℚ oneℚ *ℚ g) (one_less rates_on a r d (sym (or_false (is_in a r)) ∙ h refl)) (sym (own a))
  one_step Instant o r d h = still (total (flat_map rates_on r)) (total (entries_of f (flat_map (λ a. (snap_of task (action_of task a).start).rates) (filter (λ a. false) (option_to_list o)))))
  one_step Timed o r d h = still (total (flat_map rates_on r)) (total (entries_of f (flat_map (λ a. (snap_of task (action_of task a).start).rates) (filter (λ a. false) (option_to_list o)))))

-- ---- all steps

module _ (task : TaskParts) (steps : List ℕ) (follows : Follow task steps) where
  pub running-more : (k : ℕ) → k < length steps → running task (take (suc k) steps) ≡ run_on (snap_at task steps k).kind (option_to_list (snap_at task steps k).action) (running task (take k steps))
  running-more k l = ap (running task) (take-suc steps k 0 l) ∙ counts.running-more task (take k steps) (slice_index steps k)

  starts_once : (k : ℕ) → k < length steps → (kind : SnapKind) → may_follow task (take k steps) (slice_index steps k) kind ≡ true → kind ≡ Start → meet (option_to_list (snap_at task steps k).action) (running task (take k steps)) ≡ false
  starts_once k l kind m e = not_true (meet (option_to_list (snap_at task steps k).action) (running task (take k steps))) (subst (λ x. may_follow task (take k steps) (slice_index steps k) x ≡ true) e m)

  ends_running : (k : ℕ) → k < length steps → (kind : SnapKind) → may_follow task (take k steps) (slice_index steps k) kind ≡ true → kind ≡ End → meet (option_to_list (snap_at task steps k).action) (running task (take k steps)) ≡ true
  ends_running k l kind m e = subst (λ x. may_follow task (take k steps) (slice_index steps k) x ≡ true) e m

  -- no action runs twice
  pub distinct_running : (k : ℕ) → k ≤ length steps → are_distinct (running task (take k steps)) ≡ true
  distinct_running zero l = refl
  distinct_running (suc k) l = let m : k < length steps = omega (arith, l) in
      subst (λ r. are_distinct r ≡ true) (sym (running-more k m)) (distinct_on (snap_at task steps k).kind (snap_at task steps k).action (running task (take k steps)) (distinct_running k (omega (arith, l))) (starts_once k m (snap_at task steps k).kind (follows k m)))

  pub rates_run : (x : ℕ → ℚ) → RatesRun task steps x
  rates_run x zero f l = refl
  rates_run x (suc k) f l = let m : k < length steps = omega (arith, l) in
      new_slope task (carried_by task steps x k) (timed_step task steps x k) f
      ∙ ap (λ q. q +ℚ turn task (snap_at task steps k) f) (rates_run x k f (omega (arith, l)))
      ∙ sym (one_step task f (snap_at task steps k).kind (snap_at task steps k).action (running task (take k steps)) (distinct_running k (omega (arith, l))) (ends_running k m (snap_at task steps k).kind (follows k m)))
      ∙ ap (λ r. total (flat_map (λ a. entries_of f (snap_of task (action_of task a).start).rates) r)) (sym (running-more k m))
