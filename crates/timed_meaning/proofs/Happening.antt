-- A happening applied in place: the lists tell the state after it where they told the state before.
use Rattle.exact_lin.specs.Reckoning.{wide_limit}
use Rattle.std.proofs.Common.{◌≡◌, refl, sym, ap, subst, ◌∙◌, ℕ, ◌<◌, Bool, true, false, cond, not, ◌&&◌, ◌||◌, ◌==◌, ◌≤◌, ◌+◌, zero, suc, List, [], ◌∷◌, ◌++◌, length, map, arith}
use Rattle.std.specs.Prelude.{slice_index_or, fold, nat_lt, Result, Ok, Err}
use Rattle.exact_lin.specs.declared.faults.FormFault.{FormFault}
use Rattle.exact_lin.specs.declared.faults.FormFault.TheVariants.{Wide, Memory}
use Rattle.exact_lin.specs.Reckonings.{Reckoning, IsDefined, sums}
use Rattle.task_types.specs.Reckoned.{amounts_reckoned, effects_reckoned, assigned_value, fluent_numbers}
use native.Mathlib.Decide.{dec_lt}
use Rattle.std.specs.List.{AllByRecursion, list_all, filter, flat_map, range_with_len}
use Rattle.std.proofs.lemmas.Bool.Decides.{nat_tests}
use Rattle.std.proofs.lemmas.List.Elements.{filter-append}
use Rattle.std.proofs.lemmas.List.{map-append}
use Rattle.std.proofs.Math.Path.{fun_ext}
use Rattle.rational.specs.Rational.{ℚ, ◌+ℚ◌}
use Rattle.task_types.specs.declared.conditions.Amount.{Amount}
use Rattle.task_types.specs.declared.actions.Snap.{Snap}
use Rattle.task_types.specs.declared.actions.SnapKind.{SnapKind}
use Rattle.task_types.specs.declared.parts.TaskParts.{TaskParts}
use Rattle.task_types.specs.Tests.{last_or_else}
use Rattle.task_types.specs.Sets.{is_in}
use Rattle.task_types.specs.State.{State}
use Rattle.task_types.specs.Plan.{Step, snap_of}
use Rattle.task_types.specs.Course.{entries_of, effect_of, amount, assigned, increased, added, deleted, happen}
use Rattle.task_types.specs.WellMade.{IsWellMade, amount_fits, effect_fits}
use Rattle.basics.proofs.Bools.{and_left, and_right}
use Rattle.basics.proofs.Lists.{each_left, each_right}
use Rattle.task_types.proofs.Assigning.{snap_of_fits}
use Rattle.exact_lin.specs.Forms.{Covers}
use Rattle.timed_meaning.specs.Told.{told, valued, Defined, Tells, raised_reckoned, marked, less, more, written, raised, amounts, all_assigns, all_increases, AreCovered}
use Rattle.timed_meaning.proofs.Writes.{Below, BelowAll, at, OwnSums, own-in, own-out, written-at, raised-at, marked-at, length-written, length-raised, length-marked}
use Rattle.basics.proofs.Naturals.{same_out}

-- ---- the parts of a snap action of a well made task are in range

below-out : (n : ℕ) (xs : List ℕ) → list_all (λ x. nat_lt x n) xs ≡ true → BelowAll n xs
below-out n [] h = tt
below-out n (x ∷ xs) h = (let e : nat_lt x n ≡ true = and_left _ _ h in grind (arith, nat_tests), below-out n xs (and_right _ _ h))

pub below-map : {A : Type 0} (n : ℕ) (es : List (ℕ × A)) → list_all (λ x. nat_lt x n) (map (λ e. e.0) es) ≡ true → AllByRecursion (λ e. e.0 < n) es
below-map n [] h = tt
below-map n (e ∷ es) h = (let d : nat_lt e.0 n ≡ true = and_left _ _ h in grind (arith, nat_tests), below-map n es (and_right _ _ h))

pub covers-out : (n : ℕ) (ts : List (ℕ × ℚ)) → list_all (λ x. nat_lt x n) (map (λ t. t.0) ts) ≡ true → Covers n ts
covers-out n [] h = tt
covers-out n (t ∷ ts) h = (let d : nat_lt t.0 n ≡ true = and_left _ _ h in grind (arith, nat_tests), covers-out n ts (and_right _ _ h))

pub record Fits (task : TaskParts) (s : Snap) : Type 0 where
  pub adds : BelowAll (length task.facts) s.effect.adds
  pub deletes : BelowAll (length task.facts) s.effect.deletes
  pub assigns : AllByRecursion (λ e. e.0 < length task.fluents) s.effect.assigns
  pub increases : AllByRecursion (λ e. e.0 < length task.fluents) s.effect.increases
  pub assign_forms : AreCovered (length task.fluents) s.effect.assigns
  pub increase_forms : AreCovered (length task.fluents) s.effect.increases

module _ (task : TaskParts) where
  covered : (kind : SnapKind) (changes : List (ℕ × Amount)) → list_all (λ e. amount_fits task kind e.1) changes ≡ true → AreCovered (length task.fluents) changes
  covered kind [] h = tt
  covered kind (e ∷ es) h = (covers-out (length task.fluents) e.1.form.terms (and_right _ _ (and_left _ _ (and_left _ _ h))), covered kind es (and_right _ _ h))

  fits-out : (s : Snap) → effect_fits task s.kind s.effect ≡ true → Fits task s
  fits-out s h = record {
    adds = below-out (length task.facts) s.effect.adds (and_right _ _ (and_left _ _ (and_left _ _ (and_left _ _ h))));
    deletes = below-out (length task.facts) s.effect.deletes (and_right _ _ (and_right _ _ (and_left _ _ (and_left _ _ h))));
    assigns = below-map (length task.fluents) s.effect.assigns (and_right _ _ (and_left _ _ (and_right _ _ (and_left _ _ h))));
    increases = below-map (length task.fluents) s.effect.increases (and_right _ _ (and_left _ _ (and_right _ _ h)));
    assign_forms = covered s.kind s.effect.assigns (and_right _ _ (and_right _ _ (and_left _ _ h)));
    increase_forms = covered s.kind s.effect.increases (and_right _ _ (and_right _ _ h));
  }

  pub fits : IsWellMade task → (k : ℕ) → Fits task (snap_of task k)
  fits w k = fits-out (snap_of task k) (and_right _ _ (and_left _ _ (and_left _ _ (and_left _ _ (and_left _ _ (and_left _ _ (snap_of_fits task (and_right _ _ w.snaps) k)))))))

  -- ---- facts

  pub length-less : (xs : List Bool) (here : List Step) → length (less task xs here) ≡ length xs
  length-less xs [] = refl
  length-less xs (step ∷ here) = length-less (marked false xs (effect_of task step).deletes) here ∙ length-marked false xs (effect_of task step).deletes

  pub length-more : (xs : List Bool) (here : List Step) → length (more task xs here) ≡ length xs
  length-more xs [] = refl
  length-more xs (step ∷ here) = length-more (marked true xs (effect_of task step).adds) here ∙ length-marked true xs (effect_of task step).adds

  less-at : IsWellMade task → (xs : List Bool) (here : List Step) (f : ℕ) → length xs ≡ length task.facts → slice_index_or (less task xs here) f false ≡ (not (deleted task here f) && slice_index_or xs f false)
  less-at w xs [] f h = refl
  less-at w xs (step ∷ here) f h = less-at w (marked false xs (effect_of task step).deletes) here f (length-marked false xs (effect_of task step).deletes ∙ h)
      ∙ ap (λ q. not (deleted task here f) && q) (marked-at false xs (effect_of task step).deletes f (subst (λ n. BelowAll n (effect_of task step).deletes) (sym h) (fits w step.snap).deletes))
      ∙ go (is_in f (effect_of task step).deletes) (deleted task here f)
    where
      go : (i j : Bool) → (not j && cond i false (slice_index_or xs f false)) ≡ (not (i || j) && slice_index_or xs f false)
      go true true = refl
      go true false = refl
      go false j = refl

  more-at : IsWellMade task → (xs : List Bool) (here : List Step) (f : ℕ) → length xs ≡ length task.facts → slice_index_or (more task xs here) f false ≡ (added task here f || slice_index_or xs f false)
  more-at w xs [] f h = refl
  more-at w xs (step ∷ here) f h = more-at w (marked true xs (effect_of task step).adds) here f (length-marked true xs (effect_of task step).adds ∙ h)
      ∙ ap (λ q. added task here f || q) (marked-at true xs (effect_of task step).adds f (subst (λ n. BelowAll n (effect_of task step).adds) (sym h) (fits w step.snap).adds))
      ∙ go (is_in f (effect_of task step).adds) (added task here f)
    where
      go : (i j : Bool) → (j || cond i true (slice_index_or xs f false)) ≡ ((i || j) || slice_index_or xs f false)
      go true true = refl
      go true false = refl
      go false j = refl

  -- ---- entries of the amounts

  pub entries-append : (f : ℕ) (xs ys : List (ℕ × ℚ)) → entries_of f (xs ++ ys) ≡ entries_of f xs ++ entries_of f ys
  entries-append f xs ys = ap (map (λ e. e.1)) (filter-append (λ e. e.0 == f) xs ys) ∙ map-append (λ e. e.1) (filter (λ e. e.0 == f) xs) (filter (λ e. e.0 == f) ys)

  entries-amounts : (step : Step) (s : State) (f : ℕ) (cs : List (ℕ × Amount)) → entries_of f (amounts step s cs) ≡ map (amount step s) (entries_of f cs)
  entries-amounts step s f [] = refl
  entries-amounts step s f (c ∷ cs) = go (c.0 == f) (entries-amounts step s f cs)
    where
      go : (b : Bool) → entries_of f (amounts step s cs) ≡ map (amount step s) (entries_of f cs)
          → map (λ e. e.1) (cond b ((c.0, amount step s c.1) ∷ filter (λ e. e.0 == f) (amounts step s cs)) (filter (λ e. e.0 == f) (amounts step s cs))) ≡ map (amount step s) (map (λ e. e.1) (cond b (c ∷ filter (λ e. e.0 == f) cs) (filter (λ e. e.0 == f) cs)))
      go true e = ap (λ l. amount step s c.1 ∷ l) e
      go false e = e

  entries-assigns : (here : List Step) (s : State) (f : ℕ) → entries_of f (all_assigns task here s) ≡ assigned task here s f
  entries-assigns [] s f = refl
  entries-assigns (step ∷ here) s f = entries-append f (amounts step s (effect_of task step).assigns) (all_assigns task here s)
      ∙ ap (λ l. l ++ entries_of f (all_assigns task here s)) (entries-amounts step s f (effect_of task step).assigns)
      ∙ ap (λ l. map (amount step s) (entries_of f (effect_of task step).assigns) ++ l) (entries-assigns here s f)

  pub entries-increases : (here : List Step) (s : State) (f : ℕ) → entries_of f (all_increases task here s) ≡ increased task here s f
  entries-increases [] s f = refl
  entries-increases (step ∷ here) s f = entries-append f (amounts step s (effect_of task step).increases) (all_increases task here s)
      ∙ ap (λ l. l ++ entries_of f (all_increases task here s)) (entries-amounts step s f (effect_of task step).increases)
      ∙ ap (λ l. map (amount step s) (entries_of f (effect_of task step).increases) ++ l) (entries-increases here s f)

  -- ---- entries in range

  below-amounts : (n : ℕ) (step : Step) (s : State) (cs : List (ℕ × Amount)) → AllByRecursion (λ e. e.0 < n) cs → Below n (amounts step s cs)
  below-amounts n step s [] h = tt
  below-amounts n step s (c ∷ cs) h = (h.0, below-amounts n step s cs h.1)

  below-append : (n : ℕ) (xs ys : List (ℕ × ℚ)) → Below n xs → Below n ys → Below n (xs ++ ys)
  below-append n [] ys h k = k
  below-append n (x ∷ xs) ys h k = (h.0, below-append n xs ys h.1 k)

  pub below-assigns : IsWellMade task → (here : List Step) (s : State) → Below (length task.fluents) (all_assigns task here s)
  below-assigns w [] s = tt
  below-assigns w (step ∷ here) s = below-append (length task.fluents) (amounts step s (effect_of task step).assigns) (all_assigns task here s) (below-amounts (length task.fluents) step s (effect_of task step).assigns (fits w step.snap).assigns) (below-assigns w here s)

  pub below-increases : IsWellMade task → (here : List Step) (s : State) → Below (length task.fluents) (all_increases task here s)
  below-increases w [] s = tt
  below-increases w (step ∷ here) s = below-append (length task.fluents) (amounts step s (effect_of task step).increases) (all_increases task here s) (below-amounts (length task.fluents) step s (effect_of task step).increases (fits w step.snap).increases) (below-increases w here s)

  -- ---- the happening

  pub happen-told : IsWellMade task → (here : List Step) (facts : List Bool) (fluents : List ℚ) → length facts ≡ length task.facts → length fluents ≡ length task.fluents
      → told (more task (less task facts here) here) (raised (written fluents (all_assigns task here (valued fluents))) (all_increases task here (valued fluents))) ≡ happen task here (told facts fluents)
  unfolding happen
  happen-told w here facts fluents h k = same_state (fun_ext at_facts) (fun_ext at_fluents)
    where
      old : List (ℕ × ℚ)
      old = all_assigns task here (valued fluents)

      at_facts : (f : ℕ) → slice_index_or (more task (less task facts here) here) f false ≡ (happen task here (told facts fluents)).facts f
      at_facts f = more-at w (less task facts here) here f (length-less facts here ∙ h) ∙ ap (λ q. added task here f || q) (less-at w facts here f h)

      at_fluents : (f : ℕ) → at (raised (written fluents (all_assigns task here (valued fluents))) (all_increases task here (valued fluents))) f ≡ (happen task here (told facts fluents)).fluents f
      at_fluents f = raised-at (written fluents (all_assigns task here (valued fluents))) (all_increases task here (valued fluents)) f (subst (λ n. Below n (all_increases task here (valued fluents))) (sym (length-written fluents (all_assigns task here (valued fluents)) ∙ k)) (below-increases w here (valued fluents)))
          ∙ ap (λ q. fold (λ q r. q +ℚ r) q (entries_of f (all_increases task here (valued fluents)))) (written-at fluents (all_assigns task here (valued fluents)) f (subst (λ n. Below n (all_assigns task here (valued fluents))) (sym k) (below-assigns w here (valued fluents))))
          ∙ ap (λ l. fold (λ q r. q +ℚ r) (last_or_else (at fluents f) l) (entries_of f (all_increases task here (valued fluents)))) (entries-assigns here (valued fluents) f)
          ∙ ap (λ l. fold (λ q r. q +ℚ r) (last_or_else (at fluents f) (assigned task here (valued fluents) f)) l) (entries-increases here (valued fluents) f)

      same_state : (told (more task (less task facts here) here) (raised (written fluents (all_assigns task here (valued fluents))) (all_increases task here (valued fluents)))).facts ≡ (happen task here (told facts fluents)).facts
          → (told (more task (less task facts here) here) (raised (written fluents (all_assigns task here (valued fluents))) (all_increases task here (valued fluents)))).fluents ≡ (happen task here (told facts fluents)).fluents
          → told (more task (less task facts here) here) (raised (written fluents (all_assigns task here (valued fluents))) (all_increases task here (valued fluents))) ≡ happen task here (told facts fluents)
      same_state e g = rw (e, g) refl

  -- ---- and where it is defined

  pub all_numbers : (g : ℕ → List Reckoning) → ((f : ℕ) → Defined (g f)) → (ns : List ℕ) → Defined (flat_map g ns)
  all_numbers g h [] = tt
  all_numbers g h (n ∷ ns) = append-in (g n) (flat_map g ns) (h n) (all_numbers g h ns)
    where
      append-in : (rs ss : List Reckoning) → Defined rs → Defined ss → Defined (rs ++ ss)
      append-in [] ss h k = k
      append-in (r ∷ rs) ss h k = (h.0, append-in rs ss h.1 k)

  pub one_number : (g : ℕ → List Reckoning) (k n f : ℕ) → k ≤ f → f < k + n → Defined (flat_map g (range_with_len k n)) → Defined (g f)
  one_number g k zero f h l d = absurd (omega (arith, h, l))
  one_number g k (suc n) f h l d = elim (dec_lt k f) [ yes m ↦ one_number g (k + 1) n f (omega (arith, m)) (omega (arith, l)) (each_right (IsDefined wide_limit) (g k) (flat_map g (range_with_len (k + 1) n)) d) | no m ↦ subst (λ i. Defined (g i)) (let e : k ≡ f = omega (arith, m, h) in e) (each_left (IsDefined wide_limit) (g k) (flat_map g (range_with_len (k + 1) n)) d) ]

  pub entries-none : (n f : ℕ) (es : List (ℕ × ℚ)) → n ≤ f → Below n es → entries_of f es ≡ []
  entries-none n f [] h b = refl
  entries-none n f (e ∷ es) h b = go (e.0 == f) refl (entries-none n f es h b.1)
    where
      go : (c : Bool) → (e.0 == f) ≡ c → entries_of f es ≡ [] → map (λ e. e.1) (cond c (e ∷ filter (λ e. e.0 == f) es) (filter (λ e. e.0 == f) es)) ≡ []
      go true q i = absurd (let s : e.0 ≡ f = same_out e.0 f q in omega (arith, s, h, b.0))
      go false q i = i

  module _ (w : IsWellMade task) (here : List Step) (facts : List Bool) (fluents : List ℚ) (k : length fluents ≡ length task.fluents) where
    abbrev pub begun : List ℚ
    begun = written fluents (all_assigns task here (valued fluents))

    abbrev pub incs : List (ℕ × ℚ)
    incs = all_increases task here (valued fluents)

    abbrev pub own : ℕ → List Reckoning
    own f = sums (assigned_value task here (told facts fluents) f) (increased task here (told facts fluents) f)

    begun-at : (f : ℕ) → at begun f ≡ assigned_value task here (told facts fluents) f
    begun-at f = written-at fluents (all_assigns task here (valued fluents)) f (subst (λ n. Below n (all_assigns task here (valued fluents))) (sym k) (below-assigns w here (valued fluents)))
        ∙ ap (last_or_else (at fluents f)) (entries-assigns here (valued fluents) f)

    own-is : (f : ℕ) → sums (at begun f) (entries_of f incs) ≡ own f
    own-is f = ap (λ q. sums q (entries_of f incs)) (begun-at f) ∙ ap (λ l. sums (assigned_value task here (told facts fluents) f) l) (entries-increases here (valued fluents) f)

    incs-below : Below (length begun) incs
    incs-below = subst (λ n. Below n incs) (sym (length-written fluents (all_assigns task here (valued fluents)) ∙ k)) (below-increases w here (valued fluents))

    pub incs-within : Below (length begun) incs
    incs-within = incs-below

    own_each : Defined (flat_map own (fluent_numbers task)) → (f : ℕ) → OwnSums begun incs f
    own_each d f = elim (dec_lt f (length task.fluents)) [ yes l ↦ subst Defined (sym (own-is f)) (one_number own 0 (length task.fluents) f (omega arith) (omega (arith, l)) d) | no l ↦ subst (λ es. Defined (sums (at begun f) es)) (sym (entries-none (length task.fluents) f incs (omega (arith, l)) (below-increases w here (valued fluents)))) tt ]

    pub effects-in : Defined (flat_map (amounts_reckoned task (valued fluents)) here) → Defined (raised_reckoned begun incs) → Defined (effects_reckoned task here (told facts fluents))
    effects-in d e = both (flat_map (amounts_reckoned task (valued fluents)) here) (flat_map own (fluent_numbers task)) d (all_numbers own (λ f. subst Defined (own-is f) (own-in begun incs incs-below e f)) (fluent_numbers task))
      where
        both : (rs ss : List Reckoning) → Defined rs → Defined ss → Defined (rs ++ ss)
        both [] ss h k = k
        both (r ∷ rs) ss h k = (h.0, both rs ss h.1 k)

    pub effects-amounts : Defined (effects_reckoned task here (told facts fluents)) → Defined (flat_map (amounts_reckoned task (valued fluents)) here)
    effects-amounts d = each_left (IsDefined wide_limit) (flat_map (amounts_reckoned task (valued fluents)) here) (flat_map own (fluent_numbers task)) d

    pub effects-sums : Defined (effects_reckoned task here (told facts fluents)) → Defined (raised_reckoned begun incs)
    effects-sums d = own-out begun incs incs-below (own_each (each_right (IsDefined wide_limit) (flat_map (amounts_reckoned task (valued fluents)) here) (flat_map own (fluent_numbers task)) d))

    -- the last call of a happening tells all of it
    pub happens : {A : Type 0} (r : Result A FormFault) (facts_new : List Bool) (from new : List ℚ) (es : List (ℕ × ℚ)) → length facts ≡ length task.facts → Defined (flat_map (amounts_reckoned task (valued fluents)) here)
        → facts_new ≡ more task (less task facts here) here → from ≡ begun → es ≡ incs
        → Tells r (raised_reckoned from es) (λ _. new ≡ raised from es)
        → Tells r (effects_reckoned task here (told facts fluents)) (λ _. (told facts_new new ≡ happen task here (told facts fluents)) × (length facts_new ≡ length facts) × (length new ≡ length fluents))
    happens {A = A} r facts_new from new es h d e p q t = go r (subst (λ l. Tells r (raised_reckoned begun l) (λ _. new ≡ raised begun l)) q (subst (λ l. Tells r (raised_reckoned l es) (λ _. new ≡ raised l es)) p t))
      where
        state_is : (a : List Bool) (b : List ℚ) → a ≡ more task (less task facts here) here → b ≡ raised begun incs → told a b ≡ happen task here (told facts fluents)
        state_is a b e f = rw (e, f) (happen-told w here facts fluents h k)

        go : (r : Result A FormFault) → Tells r (raised_reckoned begun incs) (λ _. new ≡ raised begun incs) → Tells r (effects_reckoned task here (told facts fluents)) (λ _. (told facts_new new ≡ happen task here (told facts fluents)) × (length facts_new ≡ length facts) × (length new ≡ length fluents))
        go (Ok u) t = (effects-in d t.0, (state_is facts_new new e t.1, ap length e ∙ length-more (less task facts here) here ∙ length-less facts here, ap length t.1 ∙ length-raised begun incs ∙ length-written fluents (all_assigns task here (valued fluents))))
        go (Err Wide) t = λ all. t (effects-sums all)
        go (Err Memory) t = tt
