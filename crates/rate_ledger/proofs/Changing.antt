-- What the next step makes of each fluent that it changes, one after another.
use Rattle.std.proofs.Common.{◌≡◌, sym, ap, subst, ◌∙◌, ℕ, zero, suc, ◌+◌, ◌<◌, List, [], ◌∷◌, ◌++◌, map, arith, inl, inr}
use Rattle.std.specs.Prelude.{◌⊎◌}
use Rattle.std.specs.List.{filter, flat_map}
use Rattle.std.proofs.lemmas.List.Elements.{filter-append}
use Rattle.std.proofs.lemmas.Grind.{flat_map-append}
use Rattle.basics.proofs.Lists.{each_append, each_left, each_right, map-filter-append}
use Rattle.task_types.specs.declared.parts.TaskParts.{TaskParts}
use Rattle.task_types.specs.Sets.{numbers}
use Rattle.task_types.proofs.Places.{numbers-more}
use Rattle.ordering.specs.Along.{changes}
use Rattle.rate_ledger.specs.declared.changes.Change.{Change}
use Rattle.rate_ledger.specs.Entries.{snap_at}
use Rattle.rate_ledger.specs.Ledgers.{change_at}
use Rattle.rate_ledger.specs.Reckoned.{Made, IsDefined, AreDefined, change_made}

module _ (task : TaskParts) (steps : List ℕ) (k : ℕ) where
  abbrev pub due : List ℕ → List Made
  due fs = flat_map (change_made task steps k) (filter (changes task (snap_at task steps k)) fs)

  abbrev pub changed : List ℕ → List Change
  changed fs = map (change_at task steps k) (filter (changes task (snap_at task steps k)) fs)

  due-append : (xs ys : List ℕ) → due (xs ++ ys) ≡ due xs ++ due ys
  due-append xs ys = ap (flat_map (change_made task steps k)) (filter-append (changes task (snap_at task steps k)) xs ys) ∙ flat_map-append (change_made task steps k) (filter (changes task (snap_at task steps k)) xs) (filter (changes task (snap_at task steps k)) ys)

  -- the fluents below n are seen to
  pub record AreChanged (n : ℕ) (out : List Change) : Type 0 where
    pub can : AreDefined (due (numbers n))
    pub are : out ≡ changed (numbers n)

  pub AreChanged-next : (n : ℕ) (out more : List Change) → AreChanged n out → AreDefined (due (n ∷ [])) × (more ≡ out ++ changed (n ∷ [])) → AreChanged (n + 1) more
  AreChanged-next n out more a h = record {
    can = subst AreDefined (sym (ap due (numbers-more n) ∙ due-append (numbers n) (n ∷ []))) (each_append IsDefined (due (numbers n)) (due (n ∷ [])) a.can h.0);
    are = h.1 ∙ ap (λ cs. cs ++ changed (n ∷ [])) a.are ∙ sym (ap changed (numbers-more n) ∙ map-filter-append (change_at task steps k) (changes task (snap_at task steps k)) (numbers n) (n ∷ []));
  }

  pub fluent_needed : (n f : ℕ) → f < n → AreDefined (due (numbers n)) → AreDefined (due (f ∷ []))
  fluent_needed zero f l d = absurd (omega (arith, l))
  fluent_needed (suc n) f l d = go (below f n l) (each_left IsDefined (due (numbers n)) (due (n ∷ [])) split) (each_right IsDefined (due (numbers n)) (due (n ∷ [])) split) (fluent_needed n f)
    where
      one_more : numbers (suc n) ≡ numbers n ++ n ∷ []
      one_more = let e : suc n ≡ n + 1 = omega arith in ap numbers e ∙ numbers-more n

      split : AreDefined (due (numbers n) ++ due (n ∷ []))
      split = subst AreDefined (ap due one_more ∙ due-append (numbers n) (n ∷ [])) d

      below : (f n : ℕ) → f < suc n → (f < n) ⊎ (f ≡ n)
      below f n l = grind arith

      go : (f < n) ⊎ (f ≡ n) → AreDefined (due (numbers n)) → AreDefined (due (n ∷ [])) → (f < n → AreDefined (due (numbers n)) → AreDefined (due (f ∷ []))) → AreDefined (due (f ∷ []))
      go (inl m) a b r = r m a
      go (inr e) a b r = subst (λ g. AreDefined (due (g ∷ []))) (sym e) b
