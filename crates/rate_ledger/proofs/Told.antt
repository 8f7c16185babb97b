-- What the last change of a fluent tells of its value forms.
use Rattle.std.proofs.Common.{◌≡◌, refl, sym, ap, ap₂, subst, ◌∙◌, ℕ, zero, suc, ◌+◌, ◌<◌, ◌≤◌, Bool, true, false, ◌==◌, List, ◌∷◌, ◌++◌, map, length, arith, Option, Some, None, Result, Ok, Err}
use Rattle.std.specs.Prelude.{if◌then◌else◌, slice_index}
use Rattle.std.specs.List.{list_all, filter, flat_map, range_with_len, AllByRecursion}
use Rattle.std.proofs.lemmas.Bool.Decides.{nat_tests}
use Rattle.rational.specs.Rational.{ℚ, zeroℚ, neg_ℚ}
use Rattle.exact_lin.specs.Reckoning.{wide_limit}
use Rattle.exact_lin.specs.Forms.{LinearForm, constant_form, plus_term, CanAddTerm}
use Rattle.exact_lin.specs.declared.faults.FormFault.{FormFault}
use Rattle.exact_lin.specs.declared.faults.FormFault.TheVariants.{Wide, Memory}
use Rattle.basics.proofs.Lists.{each_right}
use Rattle.basics.proofs.Naturals.{same_out, same_in}
use Rattle.task_types.specs.declared.parts.TaskParts.{TaskParts}
use Rattle.task_types.specs.Sets.{numbers}
use Rattle.task_types.specs.Course.{initial}
use Rattle.task_types.specs.WellMade.{IsWellMade, is_short, snap_fits}
use Rattle.task_types.proofs.Assigning.{snap_of_fits}
use Rattle.ordering.proofs.Tied.{changed_below}
use Rattle.basics.proofs.Bools.{and_right}
use Rattle.task_types.proofs.Everyone.{all_of_flat_map}
use Rattle.ordering.specs.Along.{changes}
use Rattle.rate_ledger.specs.declared.changes.Change.{Change}
use Rattle.rate_ledger.specs.declared.list_ledgers.ListLedger.{ListLedger}
use Rattle.rate_ledger.specs.Answers.{Gives, Makes}
use Rattle.rate_ledger.specs.Sums.{FormSum, Number, PlusTerm, form_of, CanMake}
use Rattle.rate_ledger.specs.Entries.{snap_at, amount_sum, moved_from, moved_sum, changed_entry, entries, value_before, value_after, value_end}
use Rattle.rate_ledger.specs.Ledgers.{Keeps, latest}
use Rattle.rate_ledger.specs.Moving.{moved_form, CanMove, left_form, CanLeave, form_before, form_after, form_end, CanTellBefore, CanTellAfter}
use Rattle.rate_ledger.specs.Reckoned.{OfForm, IsDefined, AreDefined, change_made}
use Rattle.rate_ledger.proofs.Latest.{IsLast, last_is}

-- each number below n that passes a test has what all that pass have
of_number : (Q : ℕ → Type 0) (p : ℕ → Bool) (f n i : ℕ) → AllByRecursion Q (filter p (range_with_len i n)) → p f ≡ true → i ≤ f → f < i + n → Q f
of_number Q p f zero i a e l h = absurd (omega (arith, l, h))
of_number Q p f (suc n) i a e l h = go (i == f) refl (p i) refl a (λ b m. of_number Q p f n (i + 1) b e m (omega (arith, h)))
  where
    later : (i f : ℕ) → (i == f) ≡ false → i ≤ f → i + 1 ≤ f
    later i f e l = grind (arith, nat_tests, e, l)

    clash : (b : Bool) → b ≡ true → b ≡ false → ⊥
    clash b e f = let c : true ≡ false = sym e ∙ f in cc

    go : (b : Bool) → (i == f) ≡ b → (c : Bool) → p i ≡ c → AllByRecursion Q (if c then (i ∷ filter p (range_with_len (i + 1) n)) else filter p (range_with_len (i + 1) n)) → (AllByRecursion Q (filter p (range_with_len (i + 1) n)) → i + 1 ≤ f → Q f) → Q f
    go true s true q a r = subst Q (same_out i f s) a.0
    go true s false q a r = absurd (clash (p f) e (ap p (sym (same_out i f s)) ∙ q))
    go false s true q a r = r a.1 (later i f s l)
    go false s false q a r = r a (later i f s l)

some_same : (a b : ℕ) → Some a ≡ Some b → b ≡ a
some_same a b e = cc

some_is_there : (a : ℕ) → Some a ≡ None → ⊥
some_is_there a e = cc

same_not : (a b : ℕ) → ¬ (a ≡ b) → (a == b) ≡ false
same_not a b n = grind (arith, nat_tests, n)

-- what a fluent has after a step that changes it is what the step makes of it
pub after_changed : (task : TaskParts) (steps : List ℕ) (k f : ℕ) → changes task (snap_at task steps k) f ≡ true → value_after task steps k f ≡ (changed_entry task steps k (entries task steps k) f).form
unfolding value_after
after_changed task steps k f e = ap (λ b. if b then (if b then changed_entry task steps k (entries task steps k) f else entries task steps k f).form else moved_sum (entries task steps k f) k) e

module _ (task : TaskParts) (w : IsWellMade task) (l : ListLedger) (k : Keeps task l) (f : ℕ) where
  in_range : (j : ℕ) → changes task (snap_at task l.steps j) f ≡ true → f < length task.fluents
  in_range j e = changed_below task (snap_of_fits task (and_right (is_short task.snaps) (list_all (snap_fits task) task.snaps) w.snaps)) (slice_index l.steps j) f e

  pub last_change : (n : ℕ) → n ≤ length l.changes → IsLast task l.steps f n (latest f l.changes n)
  last_change n h = last_is task l.steps f in_range l.changes (length l.changes) k.changes n h

  -- what a step changed can be made
  pub can_make : (j : ℕ) → j < length l.changes → changes task (snap_at task l.steps j) f ≡ true → CanMake (changed_entry task l.steps j (entries task l.steps j) f).form
  can_make j h e = subst CanMake (after_changed task l.steps j f e)
      (of_number (λ g. AreDefined (change_made task l.steps j g)) (changes task (snap_at task l.steps j)) f (length task.fluents) 0
      (all_of_flat_map IsDefined (change_made task l.steps j) (filter (changes task (snap_at task l.steps j)) (numbers (length task.fluents)))
      (each_right IsDefined (map (λ a. OfForm (amount_sum task l.steps j (value_before task l.steps j) a.1)) ((snap_at task l.steps j).effect.assigns ++ (snap_at task l.steps j).effect.increases)) (flat_map (change_made task l.steps j) (filter (changes task (snap_at task l.steps j)) (numbers (length task.fluents)))) (k.defined j h)))
      e (omega arith) (omega (arith, in_range j e))).1.0

  pub rate_told : (n : ℕ) → n ≤ length l.changes → (c : Change) → Some c ≡ latest f l.changes n → c.rate ≡ (entries task l.steps n f).rate
  rate_told n h c e = go (subst (IsLast task l.steps f n) (sym e) (last_change n h))
    where
      go : IsLast task l.steps f n (Some c) → c.rate ≡ (entries task l.steps n f).rate
      go i = ap (λ x. x.rate) i.1.2 ∙ sym (ap (λ x. x.rate) i.1.3)

  pub rate_first : (n : ℕ) → n ≤ length l.changes → None ≡ latest f l.changes n → zeroℚ ≡ (entries task l.steps n f).rate
  rate_first n h e = sym (ap (λ x. x.rate) (subst (IsLast task l.steps f n) (sym e) (last_change n h)))

  -- ---- forms

  plainly : (r : Result LinearForm FormFault) (sum : FormSum) (form : LinearForm) → CanMake sum → form ≡ form_of sum → Gives r (Unit {0}) (λ x. x ≡ form) → Makes r sum
  plainly (Ok x) sum form m q g = (m, g.1 ∙ q)
  plainly (Err Wide) sum form m q g = λ k. g tt
  plainly (Err Memory) sum form m q g = tt

  moved_made : (r : Result LinearForm FormFault) (c : Change) (n j : ℕ) (sum : FormSum) (rate : ℚ) → CanMake sum → c.form ≡ form_of sum → c.rate ≡ rate → c.step ≡ j → Gives r (CanMove c n) (λ x. x ≡ moved_form c n) → Makes r (moved_from sum rate (Some j) n)
  moved_made r c n j sum rate can a b d g = told r (subst (λ i. Gives r (CanAddTerm wide_limit (form_of sum) n rate × CanAddTerm wide_limit (plus_term (form_of sum) n rate) i (neg_ℚ rate)) (λ x. x ≡ plus_term (plus_term (form_of sum) n rate) i (neg_ℚ rate))) d
      (subst (λ q. Gives r (CanAddTerm wide_limit (form_of sum) n q × CanAddTerm wide_limit (plus_term (form_of sum) n q) c.step (neg_ℚ q)) (λ x. x ≡ plus_term (plus_term (form_of sum) n q) c.step (neg_ℚ q))) b
      (subst (λ form. Gives r (CanAddTerm wide_limit form n c.rate × CanAddTerm wide_limit (plus_term form n c.rate) c.step (neg_ℚ c.rate)) (λ x. x ≡ plus_term (plus_term form n c.rate) c.step (neg_ℚ c.rate))) a g)))
    where
      told : (r : Result LinearForm FormFault) → Gives r (CanAddTerm wide_limit (form_of sum) n rate × CanAddTerm wide_limit (plus_term (form_of sum) n rate) j (neg_ℚ rate)) (λ x. x ≡ plus_term (plus_term (form_of sum) n rate) j (neg_ℚ rate)) → Makes r (PlusTerm (PlusTerm sum n rate) j (neg_ℚ rate))
      told (Ok x) g = (((can, g.0.0), g.0.1), g.1)
      told (Err Wide) g = λ m. g (m.0.1, m.1)
      told (Err Memory) g = tt

  pub before_made : (r : Result LinearForm FormFault) (n : ℕ) (rows : List (List Change)) (q : ℚ) → n ≤ length l.changes → rows ≡ l.changes → q ≡ (initial task).fluents f
      → Gives r (CanTellBefore (latest f rows n) n) (λ x. x ≡ form_before q (latest f rows n) n) → Makes r (value_before task l.steps n f)
  unfolding value_before
  before_made r n rows q h e d g = go (latest f l.changes n) (last_change n h)
      (subst (λ q. Gives r (CanTellBefore (latest f l.changes n) n) (λ x. x ≡ form_before q (latest f l.changes n) n)) d
      (subst (λ (rows : List (List Change)). Gives r (CanTellBefore (latest f rows n) n) (λ x. x ≡ form_before q (latest f rows n) n)) e g))
    where
      go : (o : Option Change) → IsLast task l.steps f n o → Gives r (CanTellBefore o n) (λ x. x ≡ form_before ((initial task).fluents f) o n) → Makes r (moved_sum (entries task l.steps n f) n)
      go None i g = subst (λ e. Makes r (moved_sum e n)) (sym i) (plainly r (Number ((initial task).fluents f)) (constant_form ((initial task).fluents f)) tt refl g)
      go (Some c) i g = subst (λ e. Makes r (moved_sum e n)) (sym i.1.3)
          (moved_made r c n i.0 (changed_entry task l.steps i.0 (entries task l.steps i.0) f).form (changed_entry task l.steps i.0 (entries task l.steps i.0) f).rate (can_make i.0 (omega (arith, i.1.0, h)) i.1.1) (ap (λ x. x.form) i.1.2) (ap (λ x. x.rate) i.1.2) (ap (λ x. x.step) i.1.2) g)

  -- a step that changed the fluent last left it what it made
  made_last : (n : ℕ) (c : Change) → n < length l.changes → changes task (snap_at task l.steps n) f ≡ true → IsLast task l.steps f (suc n) (Some c) → (c.step ≡ n) × (c.form ≡ form_of (changed_entry task l.steps n (entries task l.steps n) f).form)
  made_last n c h d i = (ap (λ x. x.step) i.1.2 ∙ same, ap (λ x. x.form) i.1.2 ∙ ap (λ j. form_of (changed_entry task l.steps j (entries task l.steps j) f).form) same)
    where
      since : Some n ≡ Some i.0
      since = ap (λ x. x.since) (sym (ap (λ b. if b then changed_entry task l.steps n (entries task l.steps n) f else entries task l.steps n f) d) ∙ i.1.3)

      same : i.0 ≡ n
      same = some_same n i.0 since

  not_changed : (n : ℕ) → changes task (snap_at task l.steps n) f ≡ false → (entries task l.steps (suc n) f ≡ entries task l.steps n f) × (value_after task l.steps n f ≡ moved_sum (entries task l.steps n f) n)
  unfolding value_after
  not_changed n d = (
    ap (λ b. if b then changed_entry task l.steps n (entries task l.steps n) f else entries task l.steps n f) d,
    ap (λ b. if b then (if b then changed_entry task l.steps n (entries task l.steps n) f else entries task l.steps n f).form else moved_sum (entries task l.steps n f) n) d,
  )

  pub after_made : (r : Result LinearForm FormFault) (n : ℕ) (rows : List (List Change)) (q : ℚ) → n < length l.changes → rows ≡ l.changes → q ≡ (initial task).fluents f
      → Gives r (CanTellAfter (latest f rows (n + 1)) n) (λ x. x ≡ form_after q (latest f rows (n + 1)) n) → Makes r (value_after task l.steps n f)
  after_made r n rows q h e d g = go (changes task (snap_at task l.steps n) f) refl (latest f l.changes (suc n)) (last_change (suc n) (omega (arith, h)))
      (subst (λ q. Gives r (CanTellAfter (latest f l.changes (suc n)) n) (λ x. x ≡ form_after q (latest f l.changes (suc n)) n)) d
      (subst (λ k. Gives r (CanTellAfter (latest f l.changes k) n) (λ x. x ≡ form_after q (latest f l.changes k) n)) next
      (subst (λ (rows : List (List Change)). Gives r (CanTellAfter (latest f rows (n + 1)) n) (λ x. x ≡ form_after q (latest f rows (n + 1)) n)) e g)))
    where
      next : n + 1 ≡ suc n
      next = omega arith

      earlier : changes task (snap_at task l.steps n) f ≡ false → (c : Change) → IsLast task l.steps f (suc n) (Some c) → ¬ (c.step ≡ n)
      earlier d c i s = let k : true ≡ false = sym i.1.1 ∙ ap (λ j. changes task (snap_at task l.steps j) f) (sym (ap (λ x. x.step) i.1.2) ∙ s) ∙ d in cc

      go : (b : Bool) → changes task (snap_at task l.steps n) f ≡ b → (o : Option Change) → IsLast task l.steps f (suc n) o → Gives r (CanTellAfter o n) (λ x. x ≡ form_after ((initial task).fluents f) o n) → Makes r (value_after task l.steps n f)
      go true d None i g = let k : Some n ≡ None = ap (λ x. x.since) (sym (ap (λ b. if b then changed_entry task l.steps n (entries task l.steps n) f else entries task l.steps n f) d) ∙ i) in absurd (some_is_there n k)
      go true d (Some c) i g = let m = made_last n c h d i in
          subst (λ sum. Makes r sum) (sym (after_changed task l.steps n f d))
          (plainly r (changed_entry task l.steps n (entries task l.steps n) f).form c.form (can_make n h d) m.1 (subst (λ b. Gives r (CanLeave b c n) (λ x. x ≡ left_form b c n)) (same_in c.step n m.0) g))
      go false d None i g = let k = not_changed n d in
          subst (λ sum. Makes r sum) (sym k.1) (subst (λ e. Makes r (moved_sum e n)) (sym (sym k.0 ∙ i)) (plainly r (Number ((initial task).fluents f)) (constant_form ((initial task).fluents f)) tt refl g))
      go false d (Some c) i g = let k = not_changed n d in
          subst (λ sum. Makes r sum) (sym k.1) (subst (λ x. Makes r (moved_sum x n)) (sym (sym k.0 ∙ i.1.3))
          (moved_made r c n i.0 (changed_entry task l.steps i.0 (entries task l.steps i.0) f).form (changed_entry task l.steps i.0 (entries task l.steps i.0) f).rate (can_make i.0 (omega (arith, i.1.0, h)) i.1.1) (ap (λ x. x.form) i.1.2) (ap (λ x. x.rate) i.1.2) (ap (λ x. x.step) i.1.2)
          (subst (λ b. Gives r (CanLeave b c n) (λ x. x ≡ left_form b c n)) (same_not c.step n (earlier d c i)) g)))

  pub end_made : (form : LinearForm) (rows : List (List Change)) (q : ℚ) → length l.changes ≡ length l.steps → rows ≡ l.changes → q ≡ (initial task).fluents f
      → form ≡ form_end q (latest f rows (length rows)) → Makes (Ok form) (value_end task l.steps f)
  unfolding value_end
  end_made form rows q h e d g = subst (λ n. Makes (Ok form) (entries task l.steps n f).form) h (go (latest f l.changes (length l.changes)) (last_change (length l.changes) (omega arith))
      (g ∙ ap₂ (λ (q : ℚ) (rows : List (List Change)). form_end q (latest f rows (length rows))) d e))
    where
      go : (o : Option Change) → IsLast task l.steps f (length l.changes) o → form ≡ form_end ((initial task).fluents f) o → Makes (Ok form) (entries task l.steps (length l.changes) f).form
      go None i q = subst (λ x. Makes (Ok form) x.form) (sym i) (tt, q)
      go (Some c) i q = subst (λ x. Makes (Ok form) x.form) (sym i.1.3) (can_make i.0 i.1.0 i.1.1, q ∙ ap (λ x. x.form) i.1.2)
