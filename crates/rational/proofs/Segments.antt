-- A linear function on an interval: its sign at the ends and its sign between them.
use Rattle.std.proofs.Common.{◌≡◌, refl, sym, subst, [], ◌∷◌, ⊎_elim}
use Rattle.rational.specs.Rational.{ℚ, zeroℚ, oneℚ, ◌+ℚ◌, ◌*ℚ◌, ◌-ℚ◌, neg_ℚ, inverse, ◌≤ℚ◌, ◌<ℚ◌}
use Rattle.rational.specs.Segment.{along, halfℚ, halfway, NonnegBetween}
use Rattle.rational.proofs.Ring.{minus, ◌⊕◌, ◌⊗◌, ◌⊖◌, num, ◌≼◌, ◌≺◌, ◌≐◌, law, combine}
use Rattle.rational.proofs.Field.{ℚ_ring}
use Rattle.rational.proofs.Order.{ℚ_ordered, le_or_gt, mul_nonneg, mul_positive, lt_le, le_sub, lt_sub, mul-inverse}
use Rattle.rational.proofs.Inequalities.{mul_le, not_lt_le, below_halfway, halfway_below, half_positive, half-half, inverse_positive, positive_not_zero, lt_not_le}
use Rattle.rational.proofs.Solve.{◌⊢◌, linear}

-- a linear function that is at least 0 at both ends is so between them
pub between : (c m lo hi t : ℚ) → zeroℚ ≤ℚ along c m lo → zeroℚ ≤ℚ along c m hi → lo ≤ℚ t → t ≤ℚ hi → zeroℚ ≤ℚ along c m t
between c m lo hi t p q h k = ⊎_elim rising falling (le_or_gt zeroℚ m)
  where
    rising : zeroℚ ≤ℚ m → zeroℚ ≤ℚ along c m t
    rising u = linear ℚ_ordered (c ∷ m ∷ lo ∷ t ∷ []) (λ c m lo t. (num 0 ≼ c ⊕ m ⊗ lo ∷ m ⊗ lo ≼ m ⊗ t ∷ []) ⊢ num 0 ≼ c ⊕ m ⊗ t) (p, (mul_le m lo t u h, tt)) refl

    falling : m <ℚ zeroℚ → zeroℚ ≤ℚ along c m t
    falling u = linear ℚ_ordered (c ∷ m ∷ hi ∷ t ∷ []) (λ c m hi t. (num 0 ≼ c ⊕ m ⊗ hi ∷ num 0 ≼ (num 0 ⊖ m) ⊗ (hi ⊖ t) ∷ []) ⊢ num 0 ≼ c ⊕ m ⊗ t)
        (q, (mul_nonneg (zeroℚ -ℚ m) (hi -ℚ t) (le_sub m zeroℚ (lt_le m zeroℚ u)) (le_sub t hi k), tt)) refl

-- Where the function is below 0 at lo and at least 0 in the middle, it is below 0 at
-- lo + w e i / 2, w being the way to the middle, -e the value at lo and i the reciprocal of what the function gains on that way.
dips : (c m lo w e i h : ℚ) → e ≡ neg_ℚ (along c m lo) → (m *ℚ w) *ℚ i ≡ oneℚ → h +ℚ h ≡ oneℚ → along c m (lo +ℚ w *ℚ (e *ℚ i *ℚ h)) ≡ neg_ℚ (e *ℚ h)
dips c m lo w e i h f g k = combine ℚ_ring (c ∷ m ∷ lo ∷ w ∷ e ∷ i ∷ h ∷ [])
    (λ c m lo w e i h. record { from = (e ⊗ h, m ⊗ w ⊗ i ≐ num 1) ∷ (num 1, e ≐ minus (c ⊕ m ⊗ lo)) ∷ (e, h ⊕ h ≐ num 1) ∷ []; goal = c ⊕ m ⊗ (lo ⊕ w ⊗ (e ⊗ i ⊗ h)) ≐ minus (e ⊗ h) })
    (g, (f, (k, tt))) refl

-- a linear function that is at least 0 at every number strictly between is so at the lower end
pub lower_end : (c m lo hi : ℚ) → lo <ℚ hi → NonnegBetween c m lo hi → zeroℚ ≤ℚ along c m lo
lower_end c m lo hi l all = not_lt_le zeroℚ (along c m lo) below
  where
    mid : ℚ
    mid = halfway lo hi

    w : ℚ
    w = mid -ℚ lo

    e : ℚ
    e = neg_ℚ (along c m lo)

    gain : ℚ
    gain = m *ℚ w

    w_pos : zeroℚ <ℚ w
    w_pos = lt_sub lo mid (below_halfway lo hi l)

    middle : zeroℚ ≤ℚ along c m mid
    middle = all mid (below_halfway lo hi l) (halfway_below lo hi l)

    below : along c m lo <ℚ zeroℚ → ⊥
    below u = lt_not_le (along c m t) zeroℚ negative (all t after_lo before_hi)
      where
        e_pos : zeroℚ <ℚ e
        e_pos = linear ℚ_ordered (along c m lo ∷ []) (λ v. (v ≺ num 0 ∷ []) ⊢ num 0 ≺ minus v) (u, tt) refl

        e_le_gain : e ≤ℚ gain
        e_le_gain = linear ℚ_ordered (c ∷ m ∷ lo ∷ mid ∷ []) (λ c m lo mid. (num 0 ≼ c ⊕ m ⊗ mid ∷ []) ⊢ minus (c ⊕ m ⊗ lo) ≼ m ⊗ (mid ⊖ lo)) (middle, tt) refl

        gain_pos : zeroℚ <ℚ gain
        gain_pos = linear ℚ_ordered (e ∷ gain ∷ []) (λ e g. (num 0 ≺ e ∷ e ≼ g ∷ []) ⊢ num 0 ≺ g) (e_pos, (e_le_gain, tt)) refl

        i : ℚ
        i = inverse gain

        i_pos : zeroℚ <ℚ i
        i_pos = inverse_positive gain gain_pos

        is_inverse : gain *ℚ i ≡ oneℚ
        is_inverse = mul-inverse gain (positive_not_zero gain gain_pos)

        t : ℚ
        t = lo +ℚ w *ℚ (e *ℚ i *ℚ halfℚ)

        step_pos : zeroℚ <ℚ (w *ℚ (e *ℚ i *ℚ halfℚ))
        step_pos = mul_positive w _ w_pos (mul_positive _ halfℚ (mul_positive e i e_pos i_pos) half_positive)

        after_lo : lo <ℚ t
        after_lo = linear ℚ_ordered (lo ∷ (w *ℚ (e *ℚ i *ℚ halfℚ)) ∷ []) (λ lo s. (num 0 ≺ s ∷ []) ⊢ lo ≺ lo ⊕ s) (step_pos, tt) refl

        -- the step is at most half the way to the middle
        before_hi : t <ℚ hi
        before_hi = linear ℚ_ordered (lo ∷ hi ∷ w ∷ e ∷ i ∷ halfℚ ∷ gain ∷ mid ∷ [])
            (λ lo hi w e i h g mid. (num 0 ≼ w ⊗ (h ⊗ (i ⊗ (g ⊖ e))) ∷ w ⊗ h ⊗ (g ⊗ i) ≐ w ⊗ h ∷ w ⊗ h ⊕ w ⊗ h ≐ w ∷ num 0 ≺ w ∷ w ≐ mid ⊖ lo ∷ mid ≺ hi ∷ []) ⊢ lo ⊕ w ⊗ (e ⊗ i ⊗ h) ≺ hi) (
              mul_nonneg w _ (lt_le zeroℚ w w_pos) (mul_nonneg halfℚ _ (lt_le zeroℚ halfℚ half_positive) (mul_nonneg i _ (lt_le zeroℚ i i_pos) (le_sub e gain e_le_gain))),
              (
                combine ℚ_ring (w ∷ halfℚ ∷ gain ∷ i ∷ []) (λ w h g i. record { from = (w ⊗ h, g ⊗ i ≐ num 1) ∷ []; goal = w ⊗ h ⊗ (g ⊗ i) ≐ w ⊗ h }) (is_inverse, tt) refl,
                (
                  combine ℚ_ring (w ∷ halfℚ ∷ []) (λ w h. record { from = (w, h ⊕ h ≐ num 1) ∷ []; goal = w ⊗ h ⊕ w ⊗ h ≐ w }) (half-half, tt) refl,
                  (w_pos, (refl, (halfway_below lo hi l, tt))),
                ),
              ),
            ) refl

        negative : along c m t <ℚ zeroℚ
        negative = subst (λ z. z <ℚ zeroℚ) (sym (dips c m lo w e i halfℚ refl is_inverse half-half)) (linear ℚ_ordered ((e *ℚ halfℚ) ∷ []) (λ p. (num 0 ≺ p ∷ []) ⊢ minus p ≺ num 0) (mul_positive e halfℚ e_pos half_positive, tt) refl)

-- a linear function that is at least 0 at every number strictly between is so at both ends
pub ends_from_between : (c m lo hi : ℚ) → lo <ℚ hi → NonnegBetween c m lo hi → (zeroℚ ≤ℚ along c m lo) × (zeroℚ ≤ℚ along c m hi)
ends_from_between c m lo hi l all = (lower_end c m lo hi l all, subst (λ z. zeroℚ ≤ℚ z) turned_back (lower_end (c +ℚ m *ℚ (lo +ℚ hi)) (neg_ℚ m) lo hi l turned))
  where
    turned_back : along (c +ℚ m *ℚ (lo +ℚ hi)) (neg_ℚ m) lo ≡ along c m hi
    turned_back = law ℚ_ring (c ∷ m ∷ lo ∷ hi ∷ []) (λ c m lo hi. c ⊕ m ⊗ (lo ⊕ hi) ⊕ minus m ⊗ lo ≐ c ⊕ m ⊗ hi) refl

    -- the function seen from the other end
    turned : NonnegBetween (c +ℚ m *ℚ (lo +ℚ hi)) (neg_ℚ m) lo hi
    turned t h k = subst (λ z. zeroℚ ≤ℚ z)
        (law ℚ_ring (c ∷ m ∷ lo ∷ hi ∷ t ∷ []) (λ c m lo hi t. c ⊕ m ⊗ (lo ⊕ hi ⊖ t) ≐ c ⊕ m ⊗ (lo ⊕ hi) ⊕ minus m ⊗ t) refl)
        (all (lo +ℚ hi -ℚ t)
        (linear ℚ_ordered (lo ∷ hi ∷ t ∷ []) (λ lo hi t. (t ≺ hi ∷ []) ⊢ lo ≺ lo ⊕ hi ⊖ t) (k, tt) refl)
        (linear ℚ_ordered (lo ∷ hi ∷ t ∷ []) (λ lo hi t. (lo ≺ t ∷ []) ⊢ lo ⊕ hi ⊖ t ≺ hi) (h, tt) refl))
