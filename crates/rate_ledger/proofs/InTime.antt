-- At times that agree with a closed ordering, value forms are what the fluents are in the states of its timed plan.
use Rattle.std.proofs.Common.{◌≡◌, refl, sym, ap, ap₂, subst, ◌∙◌, ℕ, zero, suc, ◌+◌, ◌<◌, ◌≤◌, Bool, true, false, ◌&&◌, ◌||◌, List, [], ◌∷◌, ◌++◌, map, length, take, drop, arith, append_assoc, inl, inr}
use Rattle.std.specs.Prelude.{◌⊎◌, slice_index}
use Rattle.std.specs.List.{list_any, flat_map, AllByRecursion}
use Rattle.std.proofs.lemmas.List.{take_all}
use Rattle.std.proofs.lemmas.List.FromFn.{take-map-range_with_len, get_or-map-range_with_len, length-map-range_with_len}
use Rattle.rational.specs.Rational.{ℚ, zeroℚ, ◌*ℚ◌, ◌-ℚ◌, ◌<ℚ◌, ◌≤ℚ◌}
use Rattle.rational.proofs.Order.{le_antisymm, lt_le, lt_irrefl}
use Rattle.rational.proofs.Ring.{law, num, ◌⊗◌, ◌⊖◌, ◌≐◌}
use Rattle.rational.proofs.Field.{ℚ_ring}
use Rattle.basics.proofs.Bools.{and_left, and_right, and_in, or_left, or_right, or_false_left, or_false_right}
use Rattle.basics.proofs.Lists.{each_append}
use Rattle.basics.proofs.Naturals.{same_out}
use Rattle.exact_lin.specs.Forms.{values_of}
use Rattle.task_types.specs.declared.actions.Snap.{Snap}
use Rattle.task_types.specs.declared.parts.Rules.{Rules}
use Rattle.task_types.specs.declared.parts.TaskParts.{TaskParts}
use Rattle.task_types.specs.declared.tokens.Token.{Token}
use Rattle.task_types.specs.declared.tokens.Token.TheVariants as token
use Rattle.task_types.specs.Tests.{◌=?◌, total}
use Rattle.task_types.specs.Sets.{is_in, numbers}
use Rattle.task_types.specs.Plan.{Step, action_of, snap_of}
use Rattle.task_types.specs.Course.{before, after, last_state, entries_of}
use Rattle.task_types.specs.Clash.{written_fluents}
use Rattle.task_types.specs.Touch.{looks, marks, bends, bent_fluents, tokens}
use Rattle.task_types.specs.Order.{Order, sets_apart, sets_order, touches, running, may_follow}
use Rattle.task_types.specs.Agreement.{plan_of}
use Rattle.task_types.proofs.Comparisons.{lt_le_absurd, eq_in, eq_out}
use Rattle.task_types.proofs.Everyone.{all_map, all_both}
use Rattle.task_types.proofs.Happenings.{Among}
use Rattle.task_types.proofs.Places.{map-numbers-more}
use Rattle.task_types.proofs.Assigning.{meet_in}
use Rattle.ordering.specs.Along.{Carried, at_first, at_time, carry, carried, tied_apart, tied_in_order, Follows, AreInOrder}
use Rattle.ordering.specs.Laws.{Tells}
use Rattle.ordered_course.specs.Lines.{steps_of}
use Rattle.ordered_course.specs.Quiet.{IsQuiet}
use Rattle.ordered_course.proofs.BlockedSteps.{last_fluent}
use Rattle.ordered_course.proofs.Cut.{carry_append, quiet_steps}
use Rattle.ordered_course.proofs.ListFacts.{across, second_part, true_and_false, unless}
use Rattle.ordered_course.proofs.Owned.{are_owned}
use Rattle.ordered_course.proofs.Passing.{parted_at}
use Rattle.ordered_course.proofs.RunningLines.{Has, has_both}
use Rattle.ordered_course.proofs.States.{fluent_before, fluent_after}
use Rattle.ordered_course.proofs.Telling.{Placed, have_actions, follow, closed_so, placed_so, steps_in_order, tells}
use Rattle.rate_ledger.specs.Sums.{sum_at}
use Rattle.rate_ledger.specs.Entries.{Entry, entries, value_before, value_after, value_end}
use Rattle.rate_ledger.specs.Laws.{AreInTime, AreBoth}
use Rattle.rate_ledger.specs.Carrying.{timed_step, carried_by}
use Rattle.rate_ledger.specs.Sights.{covers, Sees}
use Rattle.rate_ledger.proofs.Listing.{steps_are}
use Rattle.rate_ledger.proofs.Meaning.{since_time, Shows, RatesRun, entries_show, value_before-is, value_after-is}
use Rattle.rate_ledger.proofs.Slopes.{rates_run}

-- ---- what ties a step to one that sees a fluent

any_so : (p q : Token → Bool) (ts : List Token) → ((t : Token) → p t ≡ true → q t ≡ true) → list_any p ts ≡ true → list_any q ts ≡ true
any_so p q [] h e = e
any_so p q (t ∷ ts) h e = go (p t) refl e (any_so p q ts h)
  where
    go : (b : Bool) → p t ≡ b → (b || list_any p ts) ≡ true → (list_any p ts ≡ true → list_any q ts ≡ true) → (q t || list_any q ts) ≡ true
    go true f e r = or_left (q t) (list_any q ts) (h t f)
    go false f e r = or_right (q t) (list_any q ts) (r e)

module _ (task : TaskParts) (f : ℕ) (x s : Snap) where
  writes_marks : is_in f (written_fluents x) ≡ true → (t : Token) → covers f t ≡ true → marks task x t ≡ true
  writes_marks w (token.Fact g) c = let z : false ≡ true = c in cc
  writes_marks w (token.Fluent g) c = subst (λ n. is_in n (written_fluents x) ≡ true) (sym (same_out g f c)) w
  writes_marks w (token.Comparison a fs) c = meet_in f fs (written_fluents x) c w
  writes_marks w (token.Formulas fs) c = let z : false ≡ true = c in cc
  writes_marks w (token.Action a) c = let z : false ≡ true = c in cc

  bent_bends : is_in f (bent_fluents task x) ≡ true → (t : Token) → covers f t ≡ true → bends task x t ≡ true
  bent_bends w (token.Fact g) c = let z : false ≡ true = c in cc
  bent_bends w (token.Fluent g) c = subst (λ n. is_in n (bent_fluents task x) ≡ true) (sym (same_out g f c)) w
  bent_bends w (token.Comparison a fs) c = meet_in f fs (bent_fluents task x) c w
  bent_bends w (token.Formulas fs) c = let z : false ≡ true = c in cc
  bent_bends w (token.Action a) c = let z : false ≡ true = c in cc

  apart_first : (m n l k : Bool) → m ≡ true → (n || l) ≡ true → ((m && (n || l)) || (k && n)) ≡ true
  apart_first m n l k e h = or_left (m && (n || l)) (k && n) (and_in m (n || l) e h)

  apart_second : (m n l k : Bool) → m ≡ true → (n || l) ≡ true → ((n && (m || k)) || (l && m)) ≡ true
  apart_second m true l k e h = or_left (true && (m || k)) (l && m) (or_left m k e)
  apart_second m false true k e h = or_right (false && (m || k)) (true && m) e
  apart_second m false false k e h = let z : false ≡ true = h in cc

  order_first : (b n l d t : Bool) → b ≡ true → (n || l) ≡ true → ((b && (l || n || d)) || (t && d)) ≡ true
  order_first b true l d t e h = or_left (b && (l || true || d)) (t && d) (and_in b (l || true || d) e (or_left (l || true) d (or_right l true refl)))
  order_first b false true d t e h = or_left (b && (true || false || d)) (t && d) (and_in b (true || false || d) e (or_left (true || false) d refl))
  order_first b false false d t e h = let z : false ≡ true = h in cc

  order_second : (b n l d t : Bool) → b ≡ true → (n || l) ≡ true → ((d && t) || ((l || n || d) && b)) ≡ true
  order_second b true l d t e h = or_right (d && t) ((l || true || d) && b) (and_in (l || true || d) b (or_left (l || true) d (or_right l true refl)) e)
  order_second b false true d t e h = or_right (d && t) ((true || false || d) && b) (and_in (true || false || d) b (or_left (true || false) d refl) e)
  order_second b false false d t e h = let z : false ≡ true = h in cc

  module _ (sees : Sees task s f) where
    apart_before : is_in f (written_fluents x) ≡ true → tied_apart task x s ≡ true
    apart_before w = any_so (λ t. covers f t && (marks task s t || looks task s t)) (sets_apart task x s) (tokens task) (λ t h. apart_first (marks task x t) (marks task s t) (looks task s t) (looks task x t) (writes_marks w t (and_left _ _ h)) (and_right _ _ h)) sees

    apart_after : is_in f (written_fluents x) ≡ true → tied_apart task s x ≡ true
    apart_after w = any_so (λ t. covers f t && (marks task s t || looks task s t)) (sets_apart task s x) (tokens task) (λ t h. apart_second (marks task x t) (marks task s t) (looks task s t) (looks task x t) (writes_marks w t (and_left _ _ h)) (and_right _ _ h)) sees

    order_before : is_in f (bent_fluents task x) ≡ true → tied_in_order task x s ≡ true
    order_before w = any_so (λ t. covers f t && (marks task s t || looks task s t)) (sets_order task x s) (tokens task) (λ t h. order_first (bends task x t) (marks task s t) (looks task s t) (bends task s t) (touches task x t) (bent_bends w t (and_left _ _ h)) (and_right _ _ h)) sees

    order_after : is_in f (bent_fluents task x) ≡ true → tied_in_order task s x ≡ true
    order_after w = any_so (λ t. covers f t && (marks task s t || looks task s t)) (sets_order task s x) (tokens task) (λ t h. order_second (bends task x t) (marks task s t) (looks task s t) (bends task s t) (touches task x t) (bent_bends w t (and_left _ _ h)) (and_right _ _ h)) sees

-- ---- quiet steps

module _ (task : TaskParts) (f : ℕ) (s : Step) (sees : Sees task (snap_of task s.snap) f) where
  -- a step before it in the list that comes no earlier
  late_first : (x : Step) → Follows task x s → s.time ≤ℚ x.time → IsQuiet task s.time f x
  late_first x w l = record {
    writes = unless _ (λ e. lt_le_absurd x.time s.time (w.later (apart_before task f (snap_of task x.snap) (snap_of task s.snap) sees e)) l);
    turns = λ e. le_antisymm x.time s.time (w.no_earlier (order_before task f (snap_of task x.snap) (snap_of task s.snap) sees e)) l;
  }

  -- a step after it in the list that comes no later
  early_second : (x : Step) → Follows task s x → x.time ≤ℚ s.time → IsQuiet task s.time f x
  early_second x w l = record {
    writes = unless _ (λ e. lt_le_absurd s.time x.time (w.later (apart_after task f (snap_of task x.snap) (snap_of task s.snap) sees e)) l);
    turns = λ e. le_antisymm x.time s.time l (w.no_earlier (order_after task f (snap_of task x.snap) (snap_of task s.snap) sees e));
  }

-- ---- the steps of an ordering, at times that agree with it

carried_first : (task : TaskParts) (steps : List ℕ) (x : ℕ → ℚ) (k : ℕ) → carried task (map (timed_step task steps x) (numbers k)) ≡ carried_by task steps x k
carried_first task steps x zero = refl
carried_first task steps x (suc k) = ap (λ n. carried task (map (timed_step task steps x) (numbers n))) (one_more k)
    ∙ ap (carried task) (map-numbers-more (timed_step task steps x) k)
    ∙ carry_append task (at_first task) (map (timed_step task steps x) (numbers k)) (timed_step task steps x k ∷ [])
    ∙ ap (λ (m : Carried). carry task m (timed_step task steps x k)) (carried_first task steps x k)
  where
    one_more : (n : ℕ) → suc n ≡ n + 1
    one_more n = omega arith

any_among : (p : Token → Bool) (t : Token) (ts : List Token) → Among t ts → p t ≡ true → list_any p ts ≡ true
any_among p t [] m h = absurd m
any_among p t (u ∷ us) (inl e) h = or_left (p u) (list_any p us) (ap p (sym e) ∙ h)
any_among p t (u ∷ us) (inr m) h = or_right (p u) (list_any p us) (any_among p t us m h)

some_step : (p : Step → Bool) (xs : List Step) → list_any p xs ≡ true → Has (λ x. p x ≡ true) xs
some_step p [] h = true_and_false false h refl
some_step p (x ∷ xs) h = go (p x) refl h (some_step p xs)
  where
    go : (b : Bool) → p x ≡ b → (b || list_any p xs) ≡ true → (list_any p xs ≡ true → Has (λ x. p x ≡ true) xs) → (p x ≡ true) ⊎ Has (λ x. p x ≡ true) xs
    go true e h r = inl e
    go false e h r = inr (r h)

no_step : (p : Step → Bool) (xs : List Step) → list_any p xs ≡ false → AllByRecursion (λ x. p x ≡ false) xs
no_step p [] h = tt
no_step p (x ∷ xs) h = (or_false_left (p x) (list_any p xs) h, no_step p xs (or_false_right (p x) (list_any p xs) h))

module _ (task : TaskParts) (rules : Rules) (o : Order) (times : List ℚ) (h : AreInTime task rules o times) where
  placed : Placed task rules o times
  placed = placed_so task rules o times h.agreeing

  follows : (k : ℕ) → k < length o.steps → may_follow task (take k o.steps) (slice_index o.steps k) (snap_of task (slice_index o.steps k)).kind ≡ true
  follows = follow task o h.closed.built

  listed : steps_of task o times ≡ map (timed_step task o.steps (values_of times)) (numbers (length o.steps))
  unfolding steps_of
  listed = steps_are task (are_owned task h.well_made) (have_actions task h.well_made) o.steps times placed.lengths follows

  told : Tells task (plan_of task o times) (map (timed_step task o.steps (values_of times)) (numbers (length o.steps)))
  told = subst (Tells task (plan_of task o times)) listed (tells task rules o times h.well_made h.closed placed h.positive)

  order : AreInOrder task (map (timed_step task o.steps (values_of times)) (numbers (length o.steps)))
  order = subst (AreInOrder task) listed (steps_in_order task rules o times h.well_made h.closed placed h.positive)

  rates : RatesRun task o.steps (values_of times)
  rates = rates_run task o.steps follows (values_of times)

  -- ---- at the end

  runs_none : running task (take (length o.steps) o.steps) ≡ []
  runs_none = ap (running task) (take_all (length o.steps) o.steps (at_most (length o.steps))) ∙ (closed_so task o h.closed.closed).nothing_runs
    where
      at_most : (n : ℕ) → n ≤ n
      at_most n = omega arith

  no_slope : (f : ℕ) → (carried_by task o.steps (values_of times) (length o.steps)).slope f ≡ zeroℚ
  no_slope f = rates (length o.steps) f (at_most (length o.steps)) ∙ ap (λ r. total (flat_map (λ a. entries_of f (snap_of task (action_of task a).start).rates) r)) runs_none
    where
      at_most : (n : ℕ) → n ≤ n
      at_most n = omega arith

  pub at_end : (f : ℕ) → sum_at (value_end task o.steps f) (values_of times) ≡ (last_state task (plan_of task o times)).fluents f
  unfolding value_end
  at_end f = still (entries task o.steps (length o.steps) f) (entries_show task o.steps (values_of times) rates (length o.steps) f (at_most (length o.steps)))
      ∙ ap (λ (m : Carried). m.level f) (sym (carried_first task o.steps (values_of times) (length o.steps)))
      ∙ last_fluent task (plan_of task o times) (map (timed_step task o.steps (values_of times)) (numbers (length o.steps))) told f (ap (λ (m : Carried). m.slope f) (carried_first task o.steps (values_of times) (length o.steps)) ∙ no_slope f)
    where
      at_most : (n : ℕ) → n ≤ n
      at_most n = omega arith

      still : (e : Entry) → Shows (values_of times) e ((carried_by task o.steps (values_of times) (length o.steps)).level f) ((carried_by task o.steps (values_of times) (length o.steps)).slope f) → sum_at e.form (values_of times) ≡ (carried_by task o.steps (values_of times) (length o.steps)).level f
      still e s = sym (s.line ∙ ap (λ r. sum_at e.form (values_of times) -ℚ r *ℚ since_time (values_of times) e.since) (sym s.rate ∙ no_slope f)
          ∙ law ℚ_ring (sum_at e.form (values_of times) ∷ since_time (values_of times) e.since ∷ []) (λ v t. v ⊖ num 0 ⊗ t ≐ v) refl)

  -- ---- at a step

  module _ (k : ℕ) (l : k < length o.steps) where
    abbrev pre : List Step
    pre = map (timed_step task o.steps (values_of times)) (numbers k)

    abbrev suf : List Step
    suf = drop (suc k) (map (timed_step task o.steps (values_of times)) (numbers (length o.steps)))

    abbrev here : Step
    here = timed_step task o.steps (values_of times) k

    parted : map (timed_step task o.steps (values_of times)) (numbers k) ++ timed_step task o.steps (values_of times) k ∷ drop (suc k) (map (timed_step task o.steps (values_of times)) (numbers (length o.steps)))
        ≡ map (timed_step task o.steps (values_of times)) (numbers (length o.steps))
    parted = ap₂ (λ (xs : List Step) (x : Step). xs ++ x ∷ drop (suc k) (map (timed_step task o.steps (values_of times)) (numbers (length o.steps))))
        (sym (take-map-range_with_len (timed_step task o.steps (values_of times)) 0 (length o.steps) k (omega (arith, l))))
        (sym (get_or-map-range_with_len (timed_step task o.steps (values_of times)) 0 (length o.steps) k k (timed_step task o.steps (values_of times) k) l (omega arith)))
        ∙ parted_at (map (timed_step task o.steps (values_of times)) (numbers (length o.steps))) k (timed_step task o.steps (values_of times) k) (subst (λ n. k < n) (sym (length-map-range_with_len (timed_step task o.steps (values_of times)) 0 (length o.steps))) l)

    seams : (map (timed_step task o.steps (values_of times)) (numbers k) ++ timed_step task o.steps (values_of times) k ∷ []) ++ drop (suc k) (map (timed_step task o.steps (values_of times)) (numbers (length o.steps)))
        ≡ map (timed_step task o.steps (values_of times)) (numbers (length o.steps))
    seams = append_assoc (map (timed_step task o.steps (values_of times)) (numbers k)) (timed_step task o.steps (values_of times) k ∷ []) (drop (suc k) (map (timed_step task o.steps (values_of times)) (numbers (length o.steps)))) ∙ parted

    told_here : Tells task (plan_of task o times) (pre ++ here ∷ suf)
    told_here = subst (Tells task (plan_of task o times)) (sym parted) told

    told_next : Tells task (plan_of task o times) ((pre ++ here ∷ []) ++ suf)
    told_next = subst (Tells task (plan_of task o times)) (sym seams) told

    befores : AllByRecursion (λ x. Follows task x here) pre
    befores = all_map (λ x. AllByRecursion (Follows task x) (here ∷ suf)) (λ x. Follows task x here) pre (λ x w. w.0) (across task pre (here ∷ suf) (subst (AreInOrder task) (sym parted) order))

    afters : AllByRecursion (Follows task here) suf
    afters = (second_part task pre (here ∷ suf) (subst (AreInOrder task) (sym parted) order)).0

    -- the forms of the step, as what the list carries
    form_before : (f : ℕ) → sum_at (value_before task o.steps k f) (values_of times) ≡ (at_time (carried task pre) (values_of times k)).fluents f
    form_before f = value_before-is task o.steps (values_of times) rates k f (omega (arith, l)) ∙ ap (λ (m : Carried). (at_time m (values_of times k)).fluents f) (sym (carried_first task o.steps (values_of times) k))

    form_after : (f : ℕ) → sum_at (value_after task o.steps k f) (values_of times) ≡ (at_time (carried task (pre ++ here ∷ [])) (values_of times k)).fluents f
    form_after f = value_after-is task o.steps (values_of times) rates k f l
        ∙ ap (λ (m : Carried). (at_time m (values_of times k)).fluents f) (sym (carry_append task (at_first task) pre (here ∷ []) ∙ ap (λ (m : Carried). carry task m here) (carried_first task o.steps (values_of times) k)))

    -- ---- a step that sees a fluent

    module _ (f : ℕ) (sees : Sees task (snap_of task (slice_index o.steps k)) f) where
      pub seen_before : sum_at (value_before task o.steps k f) (values_of times) ≡ (before task (plan_of task o times) (values_of times k)).fluents f
      seen_before = form_before f ∙ fluent_before task (plan_of task o times) pre (here ∷ suf) (values_of times k) f told_here
          (all_map (λ x. Follows task x here) (λ x. values_of times k ≤ℚ x.time → IsQuiet task (values_of times k) f x) pre (λ x w g. late_first task f here sees x w g) befores)
          (λ g. absurd (lt_irrefl (values_of times k) g), all_map (Follows task here) (λ z. z.time <ℚ values_of times k → IsQuiet task (values_of times k) f z) suf (λ z w g. early_second task f here sees z w (lt_le z.time (values_of times k) g)) afters)

      pub seen_after : sum_at (value_after task o.steps k f) (values_of times) ≡ (after task (plan_of task o times) (values_of times k)).fluents f
      seen_after = form_after f ∙ fluent_after task (plan_of task o times) (pre ++ here ∷ []) suf (values_of times k) f told_next
          (each_append (λ x. values_of times k <ℚ x.time → IsQuiet task (values_of times k) f x) pre (here ∷ [])
          (all_map (λ x. Follows task x here) (λ x. values_of times k <ℚ x.time → IsQuiet task (values_of times k) f x) pre (λ x w g. late_first task f here sees x w (lt_le (values_of times k) x.time g)) befores)
          (λ g. absurd (lt_irrefl (values_of times k) g), tt))
          (all_map (Follows task here) (λ z. z.time ≤ℚ values_of times k → IsQuiet task (values_of times k) f z) suf (λ z w g. early_second task f here sees z w g) afters)

    -- ---- a step that bends a token

    module _ (t : Token) (member : Among t (tokens task)) (bent : bends task (snap_of task (slice_index o.steps k)) t ≡ true) (unmarked : marks task (snap_of task (slice_index o.steps k)) t ≡ false) where
      by_mark : (x : Snap) → marks task x t ≡ true → touches task x t ≡ true
      by_mark x e = or_left (looks task x t || marks task x t) (bends task x t) (or_right (looks task x t) (marks task x t) e)

      by_bend : (x : Snap) → bends task x t ≡ true → touches task x t ≡ true
      by_bend x e = or_right (looks task x t || marks task x t) (bends task x t) e

      -- who touches the token comes no later, or no earlier, than the step, by their places in the list
      no_later : (x : Step) → Follows task x here → touches task (snap_of task x.snap) t ≡ true → x.time ≤ℚ values_of times k
      no_later x w e = w.no_earlier (any_among (sets_order task (snap_of task x.snap) (snap_of task (slice_index o.steps k))) t (tokens task) member
          (or_right (bends task (snap_of task x.snap) t && touches task (snap_of task (slice_index o.steps k)) t) (touches task (snap_of task x.snap) t && bends task (snap_of task (slice_index o.steps k)) t)
          (and_in (touches task (snap_of task x.snap) t) (bends task (snap_of task (slice_index o.steps k)) t) e bent)))

      no_earlier : (x : Step) → Follows task here x → touches task (snap_of task x.snap) t ≡ true → values_of times k ≤ℚ x.time
      no_earlier x w e = w.no_earlier (any_among (sets_order task (snap_of task (slice_index o.steps k)) (snap_of task x.snap)) t (tokens task) member
          (or_left (bends task (snap_of task (slice_index o.steps k)) t && touches task (snap_of task x.snap) t) (touches task (snap_of task (slice_index o.steps k)) t && bends task (snap_of task x.snap) t)
          (and_in (bends task (snap_of task (slice_index o.steps k)) t) (touches task (snap_of task x.snap) t) bent e)))

      markers_apart : (x z : Step) → Follows task x z → marks task (snap_of task x.snap) t ≡ true → marks task (snap_of task z.snap) t ≡ true → x.time <ℚ z.time
      markers_apart x z w e g = w.later (any_among (sets_apart task (snap_of task x.snap) (snap_of task z.snap)) t (tokens task) member
          (or_left (marks task (snap_of task x.snap) t && (marks task (snap_of task z.snap) t || looks task (snap_of task z.snap) t)) (looks task (snap_of task x.snap) t && marks task (snap_of task z.snap) t)
          (and_in (marks task (snap_of task x.snap) t) (marks task (snap_of task z.snap) t || looks task (snap_of task z.snap) t) e (or_left (marks task (snap_of task z.snap) t) (looks task (snap_of task z.snap) t) g))))

      module _ (f : ℕ) (c : covers f t ≡ true) where
        marked : (x : Step) → is_in f (written_fluents (snap_of task x.snap)) ≡ true → marks task (snap_of task x.snap) t ≡ true
        marked x e = writes_marks task f (snap_of task x.snap) (snap_of task x.snap) e t c

        turned : (x : Step) → is_in f (bent_fluents task (snap_of task x.snap)) ≡ true → bends task (snap_of task x.snap) t ≡ true
        turned x e = bent_bends task f (snap_of task x.snap) (snap_of task x.snap) e t c

        itself : IsQuiet task (values_of times k) f here
        itself = record { writes = unless _ (λ e. true_and_false (marks task (snap_of task (slice_index o.steps k)) t) (marked here e) unmarked); turns = λ e. refl }

        -- so its two forms come to the same
        same_forms : sum_at (value_after task o.steps k f) (values_of times) ≡ sum_at (value_before task o.steps k f) (values_of times)
        same_forms = form_after f ∙ ap (λ (m : Carried). (at_time m (values_of times k)).fluents f) (carry_append task (at_first task) pre (here ∷ []))
            ∙ quiet_steps task (values_of times k) f (carried task pre) (here ∷ []) (itself, tt) ∙ sym (form_before f)

        -- no step before it in the list writes at its moment
        alone : AllByRecursion (λ x. (marks task (snap_of task x.snap) t && (x.time =? values_of times k)) ≡ false) pre → AreBoth task o times k f (before task (plan_of task o times) (values_of times k))
        alone a = record { before = is_before; after = same_forms ∙ is_before }
          where
            early : (x : Step) → Follows task x here → (marks task (snap_of task x.snap) t && (x.time =? values_of times k)) ≡ false → values_of times k ≤ℚ x.time → IsQuiet task (values_of times k) f x
            early x w n g = record {
              writes = unless _ (λ e. true_and_false (marks task (snap_of task x.snap) t && (x.time =? values_of times k)) (and_in (marks task (snap_of task x.snap) t) (x.time =? values_of times k) (marked x e) (eq_in x.time (values_of times k) (le_antisymm x.time (values_of times k) (no_later x w (by_mark (snap_of task x.snap) (marked x e))) g))) n);
              turns = λ e. le_antisymm x.time (values_of times k) (no_later x w (by_bend (snap_of task x.snap) (turned x e))) g;
            }

            late : (z : Step) → Follows task here z → z.time <ℚ values_of times k → IsQuiet task (values_of times k) f z
            late z w g = record {
              writes = unless _ (λ e. lt_le_absurd z.time (values_of times k) g (no_earlier z w (by_mark (snap_of task z.snap) (marked z e))));
              turns = λ e. absurd (lt_le_absurd z.time (values_of times k) g (no_earlier z w (by_bend (snap_of task z.snap) (turned z e))));
            }

            is_before : sum_at (value_before task o.steps k f) (values_of times) ≡ (before task (plan_of task o times) (values_of times k)).fluents f
            is_before = form_before f ∙ fluent_before task (plan_of task o times) pre (here ∷ suf) (values_of times k) f told_here
                (all_both (λ x. Follows task x here) (λ x. (marks task (snap_of task x.snap) t && (x.time =? values_of times k)) ≡ false) (λ x. values_of times k ≤ℚ x.time → IsQuiet task (values_of times k) f x) pre (λ x w n g. early x w n g) befores a)
                (λ g. absurd (lt_irrefl (values_of times k) g), all_map (Follows task here) (λ z. z.time <ℚ values_of times k → IsQuiet task (values_of times k) f z) suf (λ z w g. late z w g) afters)

        -- one does
        beside : (x : Step) → (marks task (snap_of task x.snap) t && (x.time =? values_of times k)) ≡ true → AllByRecursion (Follows task x) (here ∷ suf) → AreBoth task o times k f (after task (plan_of task o times) (values_of times k))
        beside x m fs = record { before = sym same_forms ∙ is_after; after = is_after }
          where
            early : (z : Step) → Follows task z here → values_of times k <ℚ z.time → IsQuiet task (values_of times k) f z
            early z w g = record {
              writes = unless _ (λ e. lt_le_absurd (values_of times k) z.time g (no_later z w (by_mark (snap_of task z.snap) (marked z e))));
              turns = λ e. absurd (lt_le_absurd (values_of times k) z.time g (no_later z w (by_bend (snap_of task z.snap) (turned z e))));
            }

            late : (z : Step) → Follows task here z → Follows task x z → z.time ≤ℚ values_of times k → IsQuiet task (values_of times k) f z
            late z w v g = record {
              writes = unless _ (λ e. lt_le_absurd (values_of times k) z.time
                  (subst (λ u. u <ℚ z.time) (eq_out x.time (values_of times k) (and_right (marks task (snap_of task x.snap) t) (x.time =? values_of times k) m)) (markers_apart x z v (and_left (marks task (snap_of task x.snap) t) (x.time =? values_of times k) m) (marked z e))) g);
              turns = λ e. le_antisymm z.time (values_of times k) g (no_earlier z w (by_bend (snap_of task z.snap) (turned z e)));
            }

            is_after : sum_at (value_after task o.steps k f) (values_of times) ≡ (after task (plan_of task o times) (values_of times k)).fluents f
            is_after = form_after f ∙ fluent_after task (plan_of task o times) (pre ++ here ∷ []) suf (values_of times k) f told_next
                (each_append (λ z. values_of times k <ℚ z.time → IsQuiet task (values_of times k) f z) pre (here ∷ [])
                (all_map (λ z. Follows task z here) (λ z. values_of times k <ℚ z.time → IsQuiet task (values_of times k) f z) pre (λ z w g. early z w g) befores)
                (λ g. absurd (lt_irrefl (values_of times k) g), tt))
                (all_both (Follows task here) (Follows task x) (λ z. z.time ≤ℚ values_of times k → IsQuiet task (values_of times k) f z) suf (λ z w v g. late z w v g) afters fs.1)

      pub bent_alone : ((f : ℕ) → covers f t ≡ true → AreBoth task o times k f (before task (plan_of task o times) (values_of times k)))
          ⊎ ((f : ℕ) → covers f t ≡ true → AreBoth task o times k f (after task (plan_of task o times) (values_of times k)))
      bent_alone = go (list_any (λ x. marks task (snap_of task x.snap) t && (x.time =? values_of times k)) pre) refl
        where
          go : (b : Bool) → list_any (λ x. marks task (snap_of task x.snap) t && (x.time =? values_of times k)) pre ≡ b
              → ((f : ℕ) → covers f t ≡ true → AreBoth task o times k f (before task (plan_of task o times) (values_of times k))) ⊎ ((f : ℕ) → covers f t ≡ true → AreBoth task o times k f (after task (plan_of task o times) (values_of times k)))
          go false e = inl (λ f c. alone f c (no_step (λ x. marks task (snap_of task x.snap) t && (x.time =? values_of times k)) pre e))
          go true e = let w = has_both (λ x. (marks task (snap_of task x.snap) t && (x.time =? values_of times k)) ≡ true) (λ x. AllByRecursion (Follows task x) (here ∷ suf)) pre (some_step (λ x. marks task (snap_of task x.snap) t && (x.time =? values_of times k)) pre e) (across task pre (here ∷ suf) (subst (AreInOrder task) (sym parted) order)) in
              inr (λ f c. beside f c w.it w.first w.second)
