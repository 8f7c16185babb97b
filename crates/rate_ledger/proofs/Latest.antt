-- The last change of a fluent that a ledger keeps is what the entries say.
use Rattle.std.proofs.Common.{◌≡◌, refl, sym, ap, subst, ◌∙◌, ℕ, zero, suc, ◌+◌, ◌<◌, ◌≤◌, Bool, true, false, ◌==◌, List, [], ◌∷◌, map, length, arith, inl, inr, Option, Some, None}
use Rattle.std.specs.Prelude.{◌⊎◌, if◌then◌else◌, slice_index_or}
use Rattle.std.specs.List.{filter, find, range_with_len}
use Rattle.std.proofs.lemmas.Bool.Decides.{nat_tests}
use Rattle.std.proofs.lemmas.List.FromFn.{get_or-map-range_with_len}
use Rattle.rational.specs.Rational.{zeroℚ}
use Rattle.basics.proofs.Naturals.{same_out, same_in}
use Rattle.task_types.specs.declared.parts.TaskParts.{TaskParts}
use Rattle.task_types.specs.Sets.{numbers}
use Rattle.task_types.specs.Course.{initial}
use Rattle.ordering.specs.Along.{changes}
use Rattle.rate_ledger.specs.declared.changes.Change.{Change}
use Rattle.rate_ledger.specs.Sums.{Number}
use Rattle.rate_ledger.specs.Entries.{snap_at, Entry, changed_entry, entries}
use Rattle.rate_ledger.specs.Ledgers.{change_at, changes_at, or_earlier, latest}

-- ---- one fluent among those of some numbers

module _ (p : ℕ → Bool) (g : ℕ → Change) (own : (m : ℕ) → (g m).fluent ≡ m) (f : ℕ) where
  other : (i : ℕ) → ¬ (i ≡ f) → ((g i).fluent == f) ≡ false
  other i n = ap (λ m. m == f) (own i) ∙ apart i f n
    where
      apart : (i f : ℕ) → ¬ (i ≡ f) → (i == f) ≡ false
      apart i f n = grind (arith, nat_tests, n)

  skipped : (i : ℕ) (xs : List ℕ) → ¬ (i ≡ f) → find (λ c. c.fluent == f) (map g (filter p (i ∷ xs))) ≡ find (λ c. c.fluent == f) (map g (filter p xs))
  skipped i xs n = go (p i)
    where
      go : (b : Bool) → find (λ c. c.fluent == f) (map g (if b then (i ∷ filter p xs) else filter p xs)) ≡ find (λ c. c.fluent == f) (map g (filter p xs))
      go true = rw (other i n) refl
      go false = refl

  absent : (n i : ℕ) → f < i → find (λ c. c.fluent == f) (map g (filter p (range_with_len i n))) ≡ None
  absent zero i h = refl
  absent (suc n) i h = skipped i (range_with_len (i + 1) n) (λ e. omega (arith, e, h)) ∙ absent n (i + 1) (omega (arith, h))

  here : (xs : List ℕ) → find (λ c. c.fluent == f) (map g (filter p xs)) ≡ None → find (λ c. c.fluent == f) (map g (filter p (f ∷ xs))) ≡ (if p f then Some (g f) else None)
  here xs h = go (p f)
    where
      go : (b : Bool) → find (λ c. c.fluent == f) (map g (if b then (f ∷ filter p xs) else filter p xs)) ≡ (if b then Some (g f) else None)
      go true = rw (same_in (g f).fluent f (own f)) refl
      go false = h

  present : (n i : ℕ) → i ≤ f → f < i + n → find (λ c. c.fluent == f) (map g (filter p (range_with_len i n))) ≡ (if p f then Some (g f) else None)
  present zero i l h = absurd (omega (arith, l, h))
  present (suc n) i l h = go (i == f) refl (λ m. present n (i + 1) m (omega (arith, h)))
    where
      later : (i f : ℕ) → (i == f) ≡ false → i ≤ f → i + 1 ≤ f
      later i f e l = grind (arith, nat_tests, e, l)

      go : (b : Bool) → (i == f) ≡ b → (i + 1 ≤ f → find (λ c. c.fluent == f) (map g (filter p (range_with_len (i + 1) n))) ≡ (if p f then Some (g f) else None)) → find (λ c. c.fluent == f) (map g (filter p (i ∷ range_with_len (i + 1) n))) ≡ (if p f then Some (g f) else None)
      go true e r = let s : i ≡ f = same_out i f e in
          subst (λ j. find (λ c. c.fluent == f) (map g (filter p (j ∷ range_with_len (i + 1) n))) ≡ (if p f then Some (g f) else None)) (sym s) (here (range_with_len (i + 1) n) (absent n (i + 1) (omega (arith, s))))
      go false e r = skipped i (range_with_len (i + 1) n) (λ s. apart i f e s) ∙ r (later i f e l)
        where
          apart : (i f : ℕ) → (i == f) ≡ false → i ≡ f → ⊥
          apart i f e s = grind (arith, nat_tests, e, s)

  -- of the numbers below n, where those that pass are below n
  pub picked : (n : ℕ) → (p f ≡ true → f < n) → find (λ c. c.fluent == f) (map g (filter p (numbers n))) ≡ (if p f then Some (g f) else None)
  picked n h = go (below f n)
    where
      below : (f n : ℕ) → (f < n) ⊎ (n ≤ f)
      below f n = grind arith

      none_past : (m i : ℕ) → i + m ≤ f → find (λ c. c.fluent == f) (map g (filter p (range_with_len i m))) ≡ None
      none_past zero i l = refl
      none_past (suc m) i l = skipped i (range_with_len (i + 1) m) (λ e. omega (arith, e, l)) ∙ none_past m (i + 1) (omega (arith, l))

      fails : n ≤ f → (b : Bool) → p f ≡ b → (if b then Some (g f) else None) ≡ None
      fails l true e = absurd (omega (arith, l, h e))
      fails l false e = refl

      go : (f < n) ⊎ (n ≤ f) → find (λ c. c.fluent == f) (map g (filter p (numbers n))) ≡ (if p f then Some (g f) else None)
      go (inl l) = present n 0 (omega arith) (omega (arith, l))
      go (inr l) = none_past n 0 (omega (arith, l)) ∙ sym (fails l (p f) refl)

-- ---- along the steps

abbrev pub first_entry : TaskParts → ℕ → Entry
first_entry task f = record { form = Number ((initial task).fluents f); since = None; rate = zeroℚ }

module _ (task : TaskParts) (steps : List ℕ) (f : ℕ) where
  -- No step before k changed the fluent, or step j did so last.
  abbrev pub IsLast : ℕ → Option Change → Type 0
  IsLast k None = entries task steps k f ≡ first_entry task f
  IsLast k (Some c) = (j : ℕ) × ((j < k) × (changes task (snap_at task steps j) f ≡ true) × (c ≡ change_at task steps j f) × (entries task steps k f ≡ changed_entry task steps j (entries task steps j) f))

  stays : (k : ℕ) (o : Option Change) → entries task steps (suc k) f ≡ entries task steps k f → IsLast k o → IsLast (suc k) o
  stays k None e h = e ∙ h
  stays k (Some c) e h = (h.0, (omega (arith, h.1.0), h.1.1, h.1.2, e ∙ h.1.3))

  pub last_is : (in_range : (k : ℕ) → changes task (snap_at task steps k) f ≡ true → f < length task.fluents) (rows : List (List Change)) (n : ℕ) → rows ≡ map (changes_at task steps) (numbers n) → (k : ℕ) → k ≤ n → IsLast k (latest f rows k)
  last_is in_range rows n r zero l = refl
  last_is in_range rows n r (suc k) l = subst (λ o. IsLast (suc k) (or_earlier o (latest f rows k))) (sym (ap (find (λ c. c.fluent == f)) row ∙ picked (changes task (snap_at task steps k)) (change_at task steps k) (λ m. refl) f (length task.fluents) (in_range k)))
      (go (changes task (snap_at task steps k) f) refl (last_is in_range rows n r k (omega (arith, l))))
    where
      row : slice_index_or rows k [] ≡ changes_at task steps k
      row = ap (λ rs. slice_index_or rs k []) r ∙ get_or-map-range_with_len (changes_at task steps) 0 n k k [] (omega (arith, l)) (omega arith)

      go : (b : Bool) → changes task (snap_at task steps k) f ≡ b → IsLast k (latest f rows k) → IsLast (suc k) (or_earlier (if b then Some (change_at task steps k f) else None) (latest f rows k))
      go true e h = (k, (omega arith, e, refl, ap (λ b. if b then changed_entry task steps k (entries task steps k) f else entries task steps k f) e))
      go false e h = stays k (latest f rows k) (ap (λ b. if b then changed_entry task steps k (entries task steps k) f else entries task steps k f) e) h
