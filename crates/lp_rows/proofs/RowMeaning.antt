-- A row with one factor for each variable says what its terms say; a comparison's row, that its sum is at least 0, or
-- at most 0.
use Rattle.std.proofs.Common.{◌≡◌, refl, sym, ap, ap₂, subst, ◌∙◌, ℕ, zero, suc, ◌+◌, ◌<◌, ◌≤◌, Bool, true, false, List, [], ◌∷◌, map, arith}
use Rattle.std.specs.Prelude.{◌==◌, ◌↔◌}
use Rattle.std.specs.List.{range_with_len}
use Rattle.rational.specs.Rational.{ℚ, zeroℚ, neg_ℚ, ◌+ℚ◌, ◌*ℚ◌, ◌≤ℚ◌}
use Rattle.rational.specs.Lists.{dot}
use Rattle.rational.proofs.Ring.{law, num, minus, ◌⊕◌, ◌⊗◌, ◌≐◌, ◌≼◌}
use Rattle.rational.proofs.Field.{ℚ_ring}
use Rattle.rational.proofs.Order.{ℚ_ordered}
use Rattle.rational.proofs.Solve.{linear, ◌⊢◌}
use Rattle.exact_lin.specs.Forms.{Terms, AscendFrom, Covers, coefficient, terms_at, form_at}
use Rattle.exact_lin.proofs.MergeTerms.{coefficient-below, coefficient-later, coefficient-here}
use Rattle.task_types.specs.Sets.{numbers}
use Rattle.rate_ledger.specs.Sums.{form_of, sum_at}
use Rattle.lp_rows.specs.StepRows.{Compared, compared_row, negated}
use Rattle.lp_rows.specs.Laws.{IsMet}

later_same : (t : ℕ × ℚ) (ts : Terms) (n j : ℕ) → t.0 < j → map (coefficient (t ∷ ts)) (range_with_len j n) ≡ map (coefficient ts) (range_with_len j n)
later_same t ts zero j h = refl
later_same t ts (suc n) j h = ap₂ (λ (q : ℚ) (l : List ℚ). q ∷ l) (coefficient-later j t ts h) (later_same t ts n (j + 1) (omega (arith, h)))

none_on : (y : ℕ → ℚ) (n i : ℕ) → dot (map (coefficient []) (range_with_len i n)) (map y (range_with_len i n)) ≡ zeroℚ
none_on y zero i = refl
none_on y (suc n) i = ap (λ q. zeroℚ *ℚ y i +ℚ q) (none_on y n (i + 1)) ∙ law ℚ_ring (y i ∷ []) (λ y. num 0 ⊗ y ⊕ num 0 ≐ num 0) refl

entries_on : (ts : Terms) (y : ℕ → ℚ) (n i : ℕ) → AscendFrom i ts → Covers (i + n) ts → dot (map (coefficient ts) (range_with_len i n)) (map y (range_with_len i n)) ≡ terms_at ts y
entries_on [] y n i a c = none_on y n i
entries_on (t ∷ ts) y zero i a c = absurd (omega (arith, a.0, c.0))
entries_on (t ∷ ts) y (suc n) i a c = go (t.0 == i) refl
    (λ e. entries_on ts y n (i + 1) (subst (λ k. AscendFrom (k + 1) ts) e a.2) (subst (λ k. Covers k ts) (shifted i n) c.1))
    (λ l. entries_on (t ∷ ts) y n (i + 1) (l, a.1, a.2) (subst (λ k. Covers k (t ∷ ts)) (shifted i n) c))
  where
    shifted : (i n : ℕ) → i + suc n ≡ (i + 1) + n
    shifted i n = omega arith

    same : (t i : ℕ) → (t == i) ≡ true → t ≡ i
    same t i e = grind (arith, e)

    above : (t i : ℕ) → (t == i) ≡ false → i ≤ t → i + 1 ≤ t
    above t i e l = grind (arith, e, l)

    go : (b : Bool) → (t.0 == i) ≡ b → (t.0 ≡ i → dot (map (coefficient ts) (range_with_len (i + 1) n)) (map y (range_with_len (i + 1) n)) ≡ terms_at ts y)
        → (i + 1 ≤ t.0 → dot (map (coefficient (t ∷ ts)) (range_with_len (i + 1) n)) (map y (range_with_len (i + 1) n)) ≡ terms_at (t ∷ ts) y)
        → coefficient (t ∷ ts) i *ℚ y i +ℚ dot (map (coefficient (t ∷ ts)) (range_with_len (i + 1) n)) (map y (range_with_len (i + 1) n)) ≡ t.1 *ℚ y t.0 +ℚ terms_at ts y
    go true e f g = let s : t.0 ≡ i = same t.0 i e in
        ap₂ (λ (c v : ℚ). c *ℚ v +ℚ dot (map (coefficient (t ∷ ts)) (range_with_len (i + 1) n)) (map y (range_with_len (i + 1) n))) (coefficient-here i t ts s) (ap y (sym s))
        ∙ ap (λ l. t.1 *ℚ y t.0 +ℚ dot l (map y (range_with_len (i + 1) n))) (later_same t ts n (i + 1) (omega (arith, s)))
        ∙ ap (λ q. t.1 *ℚ y t.0 +ℚ q) (f s)
    go false e f g = let l : i + 1 ≤ t.0 = above t.0 i e a.0 in
        ap (λ c. c *ℚ y i +ℚ dot (map (coefficient (t ∷ ts)) (range_with_len (i + 1) n)) (map y (range_with_len (i + 1) n))) (coefficient-below i (i + 1) (t ∷ ts) (l, a.1, a.2) (omega arith))
        ∙ law ℚ_ring (y i ∷ dot (map (coefficient (t ∷ ts)) (range_with_len (i + 1) n)) (map y (range_with_len (i + 1) n)) ∷ []) (λ y d. num 0 ⊗ y ⊕ d ≐ d) refl
        ∙ g l

-- what a row over all variables comes to is what its terms come to
pub dense_at : (size : ℕ) (ts : Terms) (y : ℕ → ℚ) → AscendFrom 0 ts → Covers size ts → dot (map (coefficient ts) (numbers size)) (map y (numbers size)) ≡ terms_at ts y
dense_at size ts y a c = let e : size ≡ 0 + size = omega arith in entries_on ts y size 0 a (subst (λ k. Covers k ts) e c)

-- ---- comparisons

negated_at : (ts : Terms) (y : ℕ → ℚ) → terms_at (negated ts) y ≡ neg_ℚ (terms_at ts y)
negated_at [] y = law ℚ_ring ([]) (num 0 ≐ minus (num 0)) refl
negated_at (t ∷ ts) y = ap (λ q. neg_ℚ t.1 *ℚ y t.0 +ℚ q) (negated_at ts y) ∙ law ℚ_ring (t.1 ∷ y t.0 ∷ terms_at ts y ∷ []) (λ c v s. minus c ⊗ v ⊕ minus s ≐ minus (c ⊗ v ⊕ s)) refl

-- The row of a comparison is met exactly where its sum is at least 0, or at most 0.
pub at_least_met : (c : Compared) (x : ℕ → ℚ) → c.at_least ≡ true → IsMet (compared_row c) x ↔ (zeroℚ ≤ℚ sum_at c.sum x)
at_least_met c x b = (λ h. up (subst (λ r. IsMet r x) row h), λ h. subst (λ r. IsMet r x) (sym row) (down h))
  where
    row : compared_row c ≡ record { terms = negated (form_of c.sum).terms; bound = (form_of c.sum).constant; origin = c.origin }
    row = rw b refl

    up : terms_at (negated (form_of c.sum).terms) x ≤ℚ (form_of c.sum).constant → zeroℚ ≤ℚ form_at (form_of c.sum) x
    up h = linear ℚ_ordered (terms_at (form_of c.sum).terms x ∷ (form_of c.sum).constant ∷ []) (λ t k. (minus t ≼ k ∷ []) ⊢ num 0 ≼ (k ⊕ t)) (subst (λ q. q ≤ℚ (form_of c.sum).constant) (negated_at (form_of c.sum).terms x) h, tt) refl

    down : zeroℚ ≤ℚ form_at (form_of c.sum) x → terms_at (negated (form_of c.sum).terms) x ≤ℚ (form_of c.sum).constant
    down h = subst (λ q. q ≤ℚ (form_of c.sum).constant) (sym (negated_at (form_of c.sum).terms x)) (linear ℚ_ordered (terms_at (form_of c.sum).terms x ∷ (form_of c.sum).constant ∷ []) (λ t k. (num 0 ≼ (k ⊕ t) ∷ []) ⊢ (minus t) ≼ k) (h, tt) refl)

pub at_most_met : (c : Compared) (x : ℕ → ℚ) → c.at_least ≡ false → IsMet (compared_row c) x ↔ (sum_at c.sum x ≤ℚ zeroℚ)
at_most_met c x b = (λ h. up (subst (λ r. IsMet r x) row h), λ h. subst (λ r. IsMet r x) (sym row) (down h))
  where
    row : compared_row c ≡ record { terms = (form_of c.sum).terms; bound = neg_ℚ (form_of c.sum).constant; origin = c.origin }
    row = rw b refl

    up : terms_at (form_of c.sum).terms x ≤ℚ neg_ℚ (form_of c.sum).constant → form_at (form_of c.sum) x ≤ℚ zeroℚ
    up h = linear ℚ_ordered (terms_at (form_of c.sum).terms x ∷ (form_of c.sum).constant ∷ []) (λ t k. (t ≼ minus k ∷ []) ⊢ (k ⊕ t) ≼ num 0) (h, tt) refl

    down : form_at (form_of c.sum) x ≤ℚ zeroℚ → terms_at (form_of c.sum).terms x ≤ℚ neg_ℚ (form_of c.sum).constant
    down h = linear ℚ_ordered (terms_at (form_of c.sum).terms x ∷ (form_of c.sum).constant ∷ []) (λ t k. ((k ⊕ t) ≼ num 0 ∷ []) ⊢ t ≼ minus k) (h, tt) refl
