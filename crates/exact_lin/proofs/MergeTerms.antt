-- A merge gives what adding the terms one by one gives, and is defined where that is.
use Rattle.std.proofs.Common.{◌≡◌, ℕ, ◌+◌, ◌<◌, ◌≤◌, sym, ◌∙◌, ap, subst, refl, arith, [], ◌∷◌, ◌++◌, Less, Equal, Greater, Ordering, Bool, true, false, nat_eq, if◌then◌else◌}
use Rattle.std.specs.Ordering.{nat_cmp, match_ordering, MatchOrdering}
use Rattle.std.proofs.lemmas.Bool.Decides.{nat_tests}
use Rattle.rational.specs.Rational.{ℚ, zeroℚ, ◌+ℚ◌, ◌*ℚ◌}
use Rattle.exact_lin.specs.Reckoning.{CanAdd, Fits}
use Rattle.exact_lin.specs.Forms.{Terms, AscendFrom, coefficient, is_zero, with_term, increased, increased_by, CanAddTerms}
use Rattle.exact_lin.specs.Merges.{absorb, merged, CanAbsorb, CanMerge}
use Rattle.exact_lin.proofs.Merge.{Merging, absorb-less, lt-less, ranks_at}
use Rattle.exact_lin.proofs.Results.{fits-product, CanAdd-zero}

-- ---- the terms

merged-below : (y : ℚ) (us : Terms) (low : ℕ) (t : ℕ × ℚ) (ts : Terms) → AscendFrom low us → t.0 < low → merged y us (t ∷ ts) ≡ t ∷ merged y us ts
merged-below y [] low t ts a h = refl
merged-below y (u ∷ us) low t ts a h = absorb-less u.0 (y *ℚ u.1) t ts (merged y us) (lt-less t.0 u.0 (omega (arith, a.0)))

merged-with_term : (y : ℚ) (us : Terms) (low v : ℕ) (c : ℚ) (ts : Terms) → AscendFrom low us → v < low → merged y us (with_term v c ts) ≡ with_term v c (merged y us ts)
merged-with_term y us low v c ts a h = go (is_zero c)
  where
    go : (b : Bool) → merged y us (if b then ts else ((v, c) ∷ ts)) ≡ (if b then merged y us ts else ((v, c) ∷ merged y us ts))
    go true = refl
    go false = merged-below y us low (v, c) ts a h

merged-increased : (y : ℚ) (us : Terms) (v : ℕ) (c : ℚ) (ts : Terms) → AscendFrom (v + 1) us → merged y us (increased ts v c) ≡ absorb v c (merged y us) ts
merged-increased y us v c [] a = merged-with_term y us (v + 1) v c [] a (omega arith)
merged-increased y us v c (t ∷ ts) a = go (nat_cmp t.0 v) refl (merged-increased y us v c ts a)
  where
    go : (o : Ordering) → nat_cmp t.0 v ≡ o → merged y us (increased ts v c) ≡ absorb v c (merged y us) ts
        → merged y us (match_ordering o (t ∷ increased ts v c) (with_term v (t.1 +ℚ c) ts) (with_term v c (t ∷ ts)))
        ≡ match_ordering o (t ∷ absorb v c (merged y us) ts) (with_term v (t.1 +ℚ c) (merged y us ts)) (with_term v c (merged y us (t ∷ ts)))
    go Less e ih = let below : t.0 < v = ranks_at t.0 v Less e in
        merged-below y us (v + 1) t (increased ts v c) a (omega (arith, below)) ∙ ap (λ (xs : Terms). t ∷ xs) ih
    go Equal e ih = merged-with_term y us (v + 1) v (t.1 +ℚ c) ts a (omega arith)
    go Greater e ih = merged-with_term y us (v + 1) v c (t ∷ ts) a (omega arith)

pub increased_by-is_merged : (y : ℚ) (us : Terms) (low : ℕ) (ts : Terms) → AscendFrom low us → increased_by ts y us ≡ merged y us ts
increased_by-is_merged y [] low ts a = refl
increased_by-is_merged y (u ∷ us) low ts a = increased_by-is_merged y us (u.0 + 1) (increased ts u.0 (y *ℚ u.1)) a.2 ∙ merged-increased y us u.0 (y *ℚ u.1) ts a.2

-- ---- coefficients

choose : (b : Bool) (x y : ℚ) → b ≡ false → (if b then x else y) ≡ y
choose b x y e = ap (λ (p : Bool). if p then x else y) e

chosen : (b : Bool) (x y : ℚ) → b ≡ true → (if b then x else y) ≡ x
chosen b x y e = ap (λ (p : Bool). if p then x else y) e

other_id : (m n : ℕ) → m < n → nat_eq m n ≡ false
other_id m n h = grind (arith, nat_tests)

greater_id : (m n : ℕ) → n < m → nat_eq m n ≡ false
greater_id m n h = grind (arith, nat_tests)

same_id : (m n : ℕ) → m ≡ n → nat_eq m n ≡ true
same_id m n e = grind (arith, nat_tests)

pub coefficient-below : (v low : ℕ) (ts : Terms) → AscendFrom low ts → v < low → coefficient ts v ≡ zeroℚ
coefficient-below v low [] a h = refl
coefficient-below v low (t ∷ ts) a h = choose _ _ _ (greater_id t.0 v (omega (arith, a.0))) ∙ coefficient-below v (t.0 + 1) ts a.2 (omega (arith, a.0))

pub coefficient-later : (v : ℕ) (t : ℕ × ℚ) (ts : Terms) → t.0 < v → coefficient (t ∷ ts) v ≡ coefficient ts v
coefficient-later v t ts h = choose _ _ _ (other_id t.0 v h)

pub coefficient-here : (v : ℕ) (t : ℕ × ℚ) (ts : Terms) → t.0 ≡ v → coefficient (t ∷ ts) v ≡ t.1
coefficient-here v t ts e = chosen _ _ _ (same_id t.0 v e)

-- ---- where the sums are defined

-- only the coefficients of the other terms' ids count
CanAddTerms-agree : (limit : ℕ) (y : ℚ) (low : ℕ) (ts ss us : Terms) → ((v : ℕ) → low ≤ v → coefficient ts v ≡ coefficient ss v) → AscendFrom low us → CanAddTerms limit ts y us → CanAddTerms limit ss y us
CanAddTerms-agree limit y low ts ss [] same a h = tt
CanAddTerms-agree limit y low ts ss (u ∷ us) same a h = (
  h.0,
  subst (λ (q : ℚ). CanAdd limit q (y *ℚ u.1)) (same u.0 a.0) h.1,
  CanAddTerms-agree limit y (u.0 + 1) ts ss us (λ v l. same v (omega (arith, a.0))) a.2 h.2,
)

refl_le : (n : ℕ) → n ≤ n
refl_le n = omega arith

module _ (limit : ℕ) (y : ℚ) (us : Terms) (v : ℕ) (c : ℚ) (fits : Fits limit c) (a : AscendFrom (v + 1) us) where
  -- a term below v, at v or above it
  agree-later : (t : ℕ × ℚ) (ts : Terms) → t.0 ≤ v → CanAddTerms limit ts y us → CanAddTerms limit (t ∷ ts) y us
  agree-later t ts h = CanAddTerms-agree limit y (v + 1) ts (t ∷ ts) us (λ w l. sym (coefficient-later w t ts (omega (arith, h)))) a

  agree-earlier : (t : ℕ × ℚ) (ts : Terms) → t.0 ≤ v → CanAddTerms limit (t ∷ ts) y us → CanAddTerms limit ts y us
  agree-earlier t ts h = CanAddTerms-agree limit y (v + 1) (t ∷ ts) ts us (λ w l. coefficient-later w t ts (omega (arith, h))) a

  first_above : (low : ℕ) (t : ℕ × ℚ) (ts : Terms) → AscendFrom low (t ∷ ts) → v < t.0 → coefficient (t ∷ ts) v ≡ zeroℚ
  first_above low t ts s h = coefficient-below v t.0 (t ∷ ts) (refl_le t.0, s.1, s.2) h

  module _ (ih : (low : ℕ) (ts : Terms) → AscendFrom low ts → CanMerge limit y us ts → CanAddTerms limit ts y us) where
    out-step : (low : ℕ) (t : ℕ × ℚ) (ts : Terms) → AscendFrom low (t ∷ ts) → (CanAbsorb limit v c (CanMerge limit y us) ts → CanAdd limit (coefficient ts v) c × CanAddTerms limit ts y us)
        → (o : Ordering) → nat_cmp t.0 v ≡ o → MatchOrdering o (CanAbsorb limit v c (CanMerge limit y us) ts) (CanAdd limit t.1 c × CanMerge limit y us ts) (CanMerge limit y us (t ∷ ts)) → CanAdd limit (coefficient (t ∷ ts) v) c × CanAddTerms limit (t ∷ ts) y us
    out-step low t ts s rest Less e m = let below : t.0 < v = ranks_at t.0 v Less e in
        (subst (λ (q : ℚ). CanAdd limit q c) (sym (coefficient-later v t ts below)) (rest m).0, agree-later t ts (omega (arith, below)) (rest m).1)
    out-step low t ts s rest Equal e m = let here : t.0 ≡ v = ranks_at t.0 v Equal e in
        (subst (λ (q : ℚ). CanAdd limit q c) (sym (coefficient-here v t ts here)) m.0, agree-later t ts (omega (arith, here)) (ih (t.0 + 1) ts s.2 m.1))
    out-step low t ts s rest Greater e m = let above : v < t.0 = ranks_at t.0 v Greater e in
        (subst (λ (q : ℚ). CanAdd limit q c) (sym (first_above low t ts s above)) (CanAdd-zero limit c fits), ih low (t ∷ ts) s m)

    pub absorb-out : (low : ℕ) (ts : Terms) → AscendFrom low ts → CanAbsorb limit v c (CanMerge limit y us) ts → CanAdd limit (coefficient ts v) c × CanAddTerms limit ts y us
    absorb-out low [] s h = (CanAdd-zero limit c fits, ih low [] tt h)
    absorb-out low (t ∷ ts) s h = out-step low t ts s (absorb-out (t.0 + 1) ts s.2) (nat_cmp t.0 v) refl h

  module _ (ih : (low : ℕ) (ts : Terms) → AscendFrom low ts → CanAddTerms limit ts y us → CanMerge limit y us ts) where
    in-step : (low : ℕ) (t : ℕ × ℚ) (ts : Terms) → AscendFrom low (t ∷ ts) → (CanAdd limit (coefficient ts v) c → CanAddTerms limit ts y us → CanAbsorb limit v c (CanMerge limit y us) ts)
        → (o : Ordering) → nat_cmp t.0 v ≡ o → CanAdd limit (coefficient (t ∷ ts) v) c → CanAddTerms limit (t ∷ ts) y us → MatchOrdering o (CanAbsorb limit v c (CanMerge limit y us) ts) (CanAdd limit t.1 c × CanMerge limit y us ts) (CanMerge limit y us (t ∷ ts))
    in-step low t ts s rest Less e h k = let below : t.0 < v = ranks_at t.0 v Less e in
        rest (subst (λ (q : ℚ). CanAdd limit q c) (coefficient-later v t ts below) h) (agree-earlier t ts (omega (arith, below)) k)
    in-step low t ts s rest Equal e h k = let here : t.0 ≡ v = ranks_at t.0 v Equal e in
        (subst (λ (q : ℚ). CanAdd limit q c) (coefficient-here v t ts here) h, ih (t.0 + 1) ts s.2 (agree-earlier t ts (omega (arith, here)) k))
    in-step low t ts s rest Greater e h k = ih low (t ∷ ts) s k

    pub absorb-in : (low : ℕ) (ts : Terms) → AscendFrom low ts → CanAdd limit (coefficient ts v) c → CanAddTerms limit ts y us → CanAbsorb limit v c (CanMerge limit y us) ts
    absorb-in low [] s h k = ih low [] tt k
    absorb-in low (t ∷ ts) s h k = in-step low t ts s (absorb-in (t.0 + 1) ts s.2) (nat_cmp t.0 v) refl h k

pub CanAddTerms-from_merge : (limit : ℕ) (y : ℚ) (us : Terms) (high low : ℕ) (ts : Terms) → AscendFrom high us → AscendFrom low ts → CanMerge limit y us ts → CanAddTerms limit ts y us
CanAddTerms-from_merge limit y [] high low ts b a h = tt
CanAddTerms-from_merge limit y (u ∷ us) high low ts b a h =
    let r = absorb-out limit y us u.0 (y *ℚ u.1) (fits-product limit y u.1 h.0) b.2 (λ l ss s m. CanAddTerms-from_merge limit y us (u.0 + 1) l ss b.2 s m) low ts a h.1 in
    (h.0, r.0, r.1)

pub merge-from_CanAddTerms : (limit : ℕ) (y : ℚ) (us : Terms) (high low : ℕ) (ts : Terms) → AscendFrom high us → AscendFrom low ts → CanAddTerms limit ts y us → CanMerge limit y us ts
merge-from_CanAddTerms limit y [] high low ts b a h = tt
merge-from_CanAddTerms limit y (u ∷ us) high low ts b a h =
    (h.0, absorb-in limit y us u.0 (y *ℚ u.1) (fits-product limit y u.1 h.0) b.2 (λ l ss s m. merge-from_CanAddTerms limit y us (u.0 + 1) l ss b.2 s m) low ts a h.1 h.2)

-- what is needed of the rest of a merge, where the terms can be added
pub needed-next : (limit : ℕ) (y : ℚ) (one other done left right us : Terms) (u : ℕ × ℚ) → AscendFrom 0 one → AscendFrom 0 other → Merging limit y one other done left right → right ≡ u ∷ us → CanAddTerms limit one y other → CanMerge limit y (u ∷ us) left
needed-next limit y one other done left right us u a b m e h = subst (λ (ts : Terms). CanMerge limit y ts left) e (m.needed (merge-from_CanAddTerms limit y other 0 0 one b a h))

-- at the end of a merge all terms are added, and could be
module _ {limit : ℕ} {y : ℚ} {one other done left right : Terms} (e : right ≡ []) (a : AscendFrom 0 one) (b : AscendFrom 0 other) (m : Merging limit y one other done left right) where
  pub merged-defined : CanAddTerms limit one y other
  merged-defined = CanAddTerms-from_merge limit y other 0 0 one b a (m.enough (subst (λ (rs : Terms). CanMerge limit y rs left) (sym e) tt))

  pub merged-terms : done ++ left ≡ increased_by one y other
  merged-terms = subst (λ (rs : Terms). done ++ merged y rs left ≡ merged y other one) e m.terms ∙ sym (increased_by-is_merged y other 0 one b)
