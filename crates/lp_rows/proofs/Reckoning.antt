-- What a step reckons, and its rows.
use Rattle.std.proofs.Common.{◌≡◌, sym, ap, ap₂, append_assoc, subst, ◌∙◌, ℕ, zero, suc, ◌+◌, ◌<◌, List, [], ◌∷◌, ◌++◌, map, arith, inl, inr, Result, Ok, Err}
use Rattle.std.specs.Prelude.{◌⊎◌}
use Rattle.std.specs.List.{flat_map}
use Rattle.std.proofs.lemmas.List.{append-nil, map-append}
use Rattle.std.proofs.lemmas.Grind.{flat_map-append}
use Rattle.basics.specs.Duties.{AllMet, IsFirstUnmet}
use Rattle.basics.proofs.Duties.{AllMet-append, IsFirstUnmet-left, IsFirstUnmet-right}
use Rattle.basics.proofs.Lists.{each_append, each_left, each_right, each_map}
use Rattle.exact_lin.specs.declared.faults.FormFault.{FormFault}
use Rattle.exact_lin.specs.declared.faults.FormFault.TheVariants.{Wide, Memory}
use Rattle.task_types.specs.declared.parts.TaskParts.{TaskParts}
use Rattle.task_types.specs.Sets.{numbers}
use Rattle.task_types.proofs.Everyone.{all_of_map}
use Rattle.task_types.proofs.Places.{numbers-more, map-numbers-more}
use Rattle.rate_ledger.specs.Answers.{Fails, Gives}
use Rattle.rate_ledger.specs.Reckoned.{Made, OfForm, IsDefined, AreDefined, step_made}
use Rattle.lp_rows.specs.declared.rows.OriginRow.{OriginRow}
use Rattle.lp_rows.specs.declared.faults.RowsFault.{RowsFault}
use Rattle.lp_rows.specs.declared.origins.Place.{Place}
use Rattle.lp_rows.specs.declared.origins.Place.TheVariants as place
use Rattle.lp_rows.specs.StepRows.{step_compared, step_reckoned}
use Rattle.lp_rows.specs.Comparing.{CanCompare}
use Rattle.lp_rows.specs.Faulting.{Tells, fault_at, step_places}
use Rattle.lp_rows.specs.Programs.{place_duties, AllDefined, IsFirstUndefined}

pub step_told : {A : Type 0} (r : Result A FormFault) (task : TaskParts) (steps : List ℕ) (k : ℕ) (Right : A → Type 0) → AreDefined (step_made task steps k) → Gives r (CanCompare (step_compared task steps k)) Right → Gives r (AreDefined (step_reckoned task steps k)) Right
step_told (Ok x) task steps k Right m g = (each_append IsDefined (step_made task steps k) (map (λ c. OfForm c.sum) (step_compared task steps k)) m (each_map IsDefined (λ c. OfForm c.sum) (step_compared task steps k) g.0), g.1)
step_told (Err Wide) task steps k Right m g = λ d. g (all_of_map IsDefined (λ c. OfForm c.sum) (step_compared task steps k) (each_right IsDefined (step_made task steps k) (map (λ c. OfForm c.sum) (step_compared task steps k)) d))
step_told (Err Memory) task steps k Right m g = tt

pub made_needed : (task : TaskParts) (steps : List ℕ) (k : ℕ) → AreDefined (step_reckoned task steps k) → AreDefined (step_made task steps k)
made_needed task steps k d = each_left IsDefined (step_made task steps k) (map (λ c. OfForm c.sum) (step_compared task steps k)) d

-- ---- places

duties-append : (ps qs : List (Place × List Made)) → place_duties (ps ++ qs) ≡ place_duties ps ++ place_duties qs
duties-append ps qs = map-append (λ p. record { fault = p.0; Met = AreDefined p.1 }) ps qs

module _ (task : TaskParts) (steps : List ℕ) where
  places-more : (n : ℕ) → step_places task steps (n + 1) ≡ step_places task steps n ++ (place.Step (suc n), step_reckoned task steps n) ∷ []
  places-more n = map-numbers-more (λ j. (place.Step (suc j), step_reckoned task steps j)) n

  parted : (n : ℕ) → place_duties (step_places task steps (n + 1)) ≡ place_duties (step_places task steps n) ++ place_duties ((place.Step (suc n), step_reckoned task steps n) ∷ [])
  parted n = ap place_duties (places-more n) ∙ duties-append (step_places task steps n) ((place.Step (suc n), step_reckoned task steps n) ∷ [])

  pub defined-more : (n : ℕ) → AllDefined (step_places task steps n) → AreDefined (step_reckoned task steps n) → AllDefined (step_places task steps (n + 1))
  defined-more n a d = subst AllMet (sym (parted n)) (AllMet-append (place_duties (step_places task steps n)) (place_duties ((place.Step (suc n), step_reckoned task steps n) ∷ [])) a (d, tt))

  -- the first of more steps at which something is undefined
  pub first_at : (m n : ℕ) → n < m → AllDefined (step_places task steps n) → ¬ (AreDefined (step_reckoned task steps n)) → IsFirstUndefined (step_places task steps m) (place.Step (suc n))
  first_at zero n l a d = absurd (omega (arith, l))
  first_at (suc m) n l a d = let e : suc m ≡ m + 1 = omega arith in
      subst (λ k. IsFirstUndefined (step_places task steps k) (place.Step (suc n))) (sym e)
      (subst (λ ds. IsFirstUnmet ds (place.Step (suc n))) (sym (parted m)) (go (below n m l) (first_at m n)))
    where
      below : (n m : ℕ) → n < suc m → (n < m) ⊎ (n ≡ m)
      below n m l = grind arith

      go : (n < m) ⊎ (n ≡ m) → (n < m → AllDefined (step_places task steps n) → ¬ (AreDefined (step_reckoned task steps n)) → IsFirstUndefined (step_places task steps m) (place.Step (suc n)))
          → IsFirstUnmet (place_duties (step_places task steps m) ++ place_duties ((place.Step (suc m), step_reckoned task steps m) ∷ [])) (place.Step (suc n))
      go (inl h) r = IsFirstUnmet-left (place_duties (step_places task steps m)) (place_duties ((place.Step (suc m), step_reckoned task steps m) ∷ [])) (place.Step (suc n)) (r h a d)
      go (inr h) r = IsFirstUnmet-right (place_duties (step_places task steps m)) (place_duties ((place.Step (suc m), step_reckoned task steps m) ∷ [])) (place.Step (suc n))
          (subst (λ k. AllDefined (step_places task steps k)) h a) (inl (subst (λ k. ¬ (AreDefined (step_reckoned task steps k))) h d, ap (λ k. place.Step (suc k)) (sym h)))

-- an answer that names the place of what failed
told : {A : Type 0} (f : FormFault) (Defined : Type 0) (p : Place) (places : List (Place × List Made)) (Right : A → Type 0) → Fails f Defined → (¬ Defined → IsFirstUndefined places p) → Tells (Err (fault_at f p)) places Right
told Wide Defined p places Right n first = first n
told Memory Defined p places Right n first = tt

pub told_at : {A : Type 0} (e : RowsFault) (f : FormFault) (Defined : Type 0) (p : Place) (places : List (Place × List Made)) (Right : A → Type 0) → e ≡ fault_at f p → Fails f Defined → (¬ Defined → IsFirstUndefined places p) → Tells (Err e) places Right
told_at e f Defined p places Right q n first = subst (λ e. Tells (Err e) places Right) (sym q) (told f Defined p places Right n first)

-- the rows of one more step
pub rows-more : (g : ℕ → List OriginRow) (old now more : List OriginRow) (n k : ℕ) → k ≡ n → now ≡ old ++ flat_map g (numbers n) → more ≡ now ++ g k → more ≡ old ++ flat_map g (numbers (n + 1))
rows-more g old now more n k e h m = m ∙ ap₂ (λ (l : List OriginRow) (j : ℕ). l ++ g j) h e ∙ append_assoc old (flat_map g (numbers n)) (g n)
    ∙ ap (λ l. old ++ l) (sym (ap (flat_map g) (numbers-more n) ∙ flat_map-append g (numbers n) (n ∷ []) ∙ ap (λ l. flat_map g (numbers n) ++ l) (append-nil (g n))))
