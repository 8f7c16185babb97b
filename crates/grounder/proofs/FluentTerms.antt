-- The terms of a form below some unknown, one term more.
use Rattle.std.proofs.Common.{◌≡◌, refl, sym, ap, subst, ◌∙◌, ℕ, ◌+◌, ◌<◌, ◌≤◌, arith, Bool, true, false, nat_lt, cond, [], ◌∷◌, ◌++◌, length, take, drop, get_or}
use Rattle.std.specs.Prelude.{if◌then◌else◌}
use Rattle.std.specs.Ordering.{match_ordering}
use Rattle.std.specs.declared.cmp.Ordering.{Ordering}
use Rattle.std.specs.List.{AllByRecursion as Each, filter}
use Rattle.std.proofs.lemmas.List.{take-append-drop, append-nil}
use Rattle.std.proofs.lemmas.List.Elements.{filter-append}
use Rattle.rational.specs.Rational.{ℚ, zeroℚ, ◌+ℚ◌}
use Rattle.exact_lin.specs.Forms.{Terms, LinearForm, AscendFrom, with_term, increased, plus_term}
use Rattle.exact_lin.proofs.Edits.{with_term-some}
use Rattle.exact_lin.proofs.Merge.{lt-less}
use Rattle.exact_lin.proofs.Zeros.{is_zero-other}
use Rattle.ground_world.proofs.Steps.{taken}
use Rattle.basics.proofs.Lists.{drop_item}

abbrev IsBefore : ℕ → ℕ × ℚ → Type 0
IsBefore v t = t.0 < v

-- a term behind all others
increased-behind : (ts : Terms) (v : ℕ) (c : ℚ) → Each (IsBefore v) ts → ¬ (c ≡ zeroℚ) → increased ts v c ≡ ts ++ ((v, c) ∷ [])
increased-behind [] v c h n = with_term-some v c [] (is_zero-other c n)
increased-behind (t ∷ ts) v c h n =
    ap (λ (o : Ordering). match_ordering o (t ∷ increased ts v c) (with_term v (t.1 +ℚ c) ts) (with_term v c (t ∷ ts))) (lt-less t.0 v h.0)
    ∙ ap (λ (us : Terms). t ∷ us) (increased-behind ts v c h.1 n)

ascend-to : (low : ℕ) (us : Terms) (t : ℕ × ℚ) (rest : Terms) → AscendFrom low (us ++ t ∷ rest) → low ≤ t.0
ascend-to low [] t rest a = a.0
ascend-to low (u ∷ us) t rest a = let h : u.0 + 1 ≤ t.0 = ascend-to (u.0 + 1) us t rest a.2 in omega (arith, a.0, h)

ascend-other : (low : ℕ) (us : Terms) (t : ℕ × ℚ) (rest : Terms) → AscendFrom low (us ++ t ∷ rest) → ¬ (t.1 ≡ zeroℚ)
ascend-other low [] t rest a = a.1
ascend-other low (u ∷ us) t rest a = ascend-other (u.0 + 1) us t rest a.2

-- those among the terms before one that pass a test come before it
ascend-before : (q : ℕ × ℚ → Bool) (low : ℕ) (us : Terms) (t : ℕ × ℚ) (rest : Terms) → AscendFrom low (us ++ t ∷ rest) → Each (IsBefore t.0) (filter q us)
ascend-before q low [] t rest a = tt
ascend-before q low (u ∷ us) t rest a = by (q u) (ascend-before q (u.0 + 1) us t rest a.2)
  where
    first : u.0 < t.0
    first = let h : u.0 + 1 ≤ t.0 = ascend-to (u.0 + 1) us t rest a.2 in omega (arith, h)

    by : (b : Bool) → Each (IsBefore t.0) (filter q us) → Each (IsBefore t.0) (cond b (u ∷ filter q us) (filter q us))
    by true h = (first, h)
    by false h = h

module _ (n : ℕ) (ts : Terms) (ascend : AscendFrom 0 ts) (i : ℕ) (t : ℕ × ℚ) (lt : i < length ts) (at : t ≡ get_or ts i t) where
  split : AscendFrom 0 (take i ts ++ t ∷ drop (i + 1) ts)
  split = subst (AscendFrom 0) (sym (take-append-drop i ts) ∙ ap (λ (us : Terms). take i ts ++ us) (drop_item ts i t lt at)) ascend

  by : (b : Bool) → nat_lt t.0 n ≡ b → (c : ℚ) → (if b then plus_term (record { constant = c; terms = filter (λ u. nat_lt u.0 n) (take i ts) }) t.0 t.1 else record { constant = c; terms = filter (λ u. nat_lt u.0 n) (take i ts) })
      ≡ record { constant = c; terms = filter (λ u. nat_lt u.0 n) (take i ts) ++ cond b (t ∷ []) [] }
  by true e c = ap (λ (us : Terms). record { constant = c; terms = us })
      (increased-behind (filter (λ u. nat_lt u.0 n) (take i ts)) t.0 t.1 (ascend-before (λ u. nat_lt u.0 n) 0 (take i ts) t (drop (i + 1) ts) split) (ascend-other 0 (take i ts) t (drop (i + 1) ts) split))
  by false e c = ap (λ (us : Terms). record { constant = c; terms = us }) (sym (append-nil (filter (λ u. nat_lt u.0 n) (take i ts))))

  -- one term more
  pub below-more : (c : ℚ) (f g : LinearForm) → f ≡ record { constant = c; terms = filter (λ u. nat_lt u.0 n) (take i ts) }
      → g ≡ (if nat_lt t.0 n then plus_term f t.0 t.1 else f) → g ≡ record { constant = c; terms = filter (λ u. nat_lt u.0 n) (take (i + 1) ts) }
  below-more c f g h k =
      k ∙ ap (λ (x : LinearForm). if nat_lt t.0 n then plus_term x t.0 t.1 else x) h ∙ by (nat_lt t.0 n) refl c
      ∙ ap (λ (us : Terms). record { constant = c; terms = us })
      (sym (filter-append (λ u. nat_lt u.0 n) (take i ts) (t ∷ [])) ∙ ap (filter (λ u. nat_lt u.0 n)) (sym (taken ts i t lt at)))
