-- Laws of the order that proofs cite by name; what is not here follows by `linear`.
use Rattle.std.proofs.Common.{◌≡◌, ◌↔◌, refl, subst, [], ◌∷◌, ◌⊎◌, inl, inr, ⊎_elim, ◌≤ℤ◌, ◌<ℤ◌, arith}
use Rattle.std.proofs.Math.IntN.{ℤ}
use Rattle.std.proofs.lemmas.Int.{ints}
use Rattle.rational.specs.Rational.{ℚ, ratio, whole, zeroℚ, oneℚ, ◌+ℚ◌, ◌*ℚ◌, neg_ℚ, ◌-ℚ◌, inverse, ◌≤ℚ◌, ◌<ℚ◌}
use Rattle.rational.specs.Segment.{halfℚ, halfway}
use Rattle.rational.proofs.Ring.{minus, ◌⊕◌, ◌⊗◌, ◌⊖◌, num, ◌≼◌, ◌≺◌, ◌≐◌, combine}
use Rattle.rational.proofs.Field.{ℚ_ring}
use Rattle.rational.proofs.Order.{ℚ_ordered, mul_nonneg, mul_positive, le_sub, lt_sub, le_or_gt, lt_le, lt_irrefl, le_antisymm, mul-inverse, le_ratio_in, lt_ratio_in, le_ratio_out, lt_ratio_out}
use Rattle.rational.proofs.Solve.{◌⊢◌, linear, contradiction}

-- ---- chains
pub le_from_eq : (a b : ℚ) → a ≡ b → a ≤ℚ b
le_from_eq a b e = linear ℚ_ordered (a ∷ b ∷ []) (λ a b. (a ≐ b ∷ []) ⊢ a ≼ b) (e, tt) refl

pub le_refl : (a : ℚ) → a ≤ℚ a
le_refl a = linear ℚ_ordered (a ∷ []) (λ a. [] ⊢ a ≼ a) tt refl

pub le_trans : (a b c : ℚ) → a ≤ℚ b → b ≤ℚ c → a ≤ℚ c
le_trans a b c h k = linear ℚ_ordered (a ∷ b ∷ c ∷ []) (λ a b c. (a ≼ b ∷ b ≼ c ∷ []) ⊢ a ≼ c) (h, (k, tt)) refl

pub lt_trans : (a b c : ℚ) → a <ℚ b → b <ℚ c → a <ℚ c
lt_trans a b c h k = linear ℚ_ordered (a ∷ b ∷ c ∷ []) (λ a b c. (a ≺ b ∷ b ≺ c ∷ []) ⊢ a ≺ c) (h, (k, tt)) refl

pub le_lt_trans : (a b c : ℚ) → a ≤ℚ b → b <ℚ c → a <ℚ c
le_lt_trans a b c h k = linear ℚ_ordered (a ∷ b ∷ c ∷ []) (λ a b c. (a ≼ b ∷ b ≺ c ∷ []) ⊢ a ≺ c) (h, (k, tt)) refl

pub lt_le_trans : (a b c : ℚ) → a <ℚ b → b ≤ℚ c → a <ℚ c
lt_le_trans a b c h k = linear ℚ_ordered (a ∷ b ∷ c ∷ []) (λ a b c. (a ≺ b ∷ b ≼ c ∷ []) ⊢ a ≺ c) (h, (k, tt)) refl

-- ---- the two orders against each other
pub lt_not_le : (a b : ℚ) → a <ℚ b → ¬ (b ≤ℚ a)
lt_not_le a b h k = contradiction ℚ_ordered (a ∷ b ∷ []) (λ a b. a ≺ b ∷ b ≼ a ∷ []) (h, (k, tt)) refl

pub not_le_lt : (a b : ℚ) → ¬ (b ≤ℚ a) → a <ℚ b
not_le_lt a b n = ⊎_elim (λ h. absurd (n h)) (λ h. h) (le_or_gt b a)

pub not_lt_le : (a b : ℚ) → ¬ (b <ℚ a) → a ≤ℚ b
not_lt_le a b n = ⊎_elim (λ h. h) (λ h. absurd (n h)) (le_or_gt a b)

pub le_total : (a b : ℚ) → (a ≤ℚ b) ⊎ (b ≤ℚ a)
le_total a b = ⊎_elim (λ h. inl h) (λ h. inr (lt_le b a h)) (le_or_gt a b)

pub le_lt_or_eq : (a b : ℚ) → a ≤ℚ b → (a <ℚ b) ⊎ (a ≡ b)
le_lt_or_eq a b h = ⊎_elim (λ k. inr (le_antisymm a b h k)) (λ k. inl k) (le_or_gt b a)

-- below is at most and not equal
pub lt_is : (a b : ℚ) → (a <ℚ b) ↔ ((a ≤ℚ b) × ¬ (a ≡ b))
lt_is a b = (λ h. (lt_le a b h, λ e. lt_irrefl b (subst (λ z. z <ℚ b) e h)), λ h. ⊎_elim (λ k. k) (λ e. absurd (h.1 e)) (le_lt_or_eq a b h.0))

-- ---- sums
pub add_le : (a b c d : ℚ) → a ≤ℚ b → c ≤ℚ d → (a +ℚ c) ≤ℚ (b +ℚ d)
add_le a b c d h k = linear ℚ_ordered (a ∷ b ∷ c ∷ d ∷ []) (λ a b c d. (a ≼ b ∷ c ≼ d ∷ []) ⊢ a ⊕ c ≼ b ⊕ d) (h, (k, tt)) refl

pub add_lt : (a b c d : ℚ) → a <ℚ b → c ≤ℚ d → (a +ℚ c) <ℚ (b +ℚ d)
add_lt a b c d h k = linear ℚ_ordered (a ∷ b ∷ c ∷ d ∷ []) (λ a b c d. (a ≺ b ∷ c ≼ d ∷ []) ⊢ a ⊕ c ≺ b ⊕ d) (h, (k, tt)) refl

pub neg_le : (a b : ℚ) → a ≤ℚ b → neg_ℚ b ≤ℚ neg_ℚ a
neg_le a b h = linear ℚ_ordered (a ∷ b ∷ []) (λ a b. (a ≼ b ∷ []) ⊢ minus b ≼ minus a) (h, tt) refl

pub neg_lt : (a b : ℚ) → a <ℚ b → neg_ℚ b <ℚ neg_ℚ a
neg_lt a b h = linear ℚ_ordered (a ∷ b ∷ []) (λ a b. (a ≺ b ∷ []) ⊢ minus b ≺ minus a) (h, tt) refl

-- ---- products
pub mul_le : (y a b : ℚ) → zeroℚ ≤ℚ y → a ≤ℚ b → (y *ℚ a) ≤ℚ (y *ℚ b)
mul_le y a b h k = linear ℚ_ordered (y ∷ a ∷ b ∷ []) (λ y a b. (num 0 ≼ y ⊗ (b ⊖ a) ∷ []) ⊢ y ⊗ a ≼ y ⊗ b) (mul_nonneg y (b -ℚ a) h (le_sub a b k), tt) refl

pub mul_lt : (y a b : ℚ) → zeroℚ <ℚ y → a <ℚ b → (y *ℚ a) <ℚ (y *ℚ b)
mul_lt y a b h k = linear ℚ_ordered (y ∷ a ∷ b ∷ []) (λ y a b. (num 0 ≺ y ⊗ (b ⊖ a) ∷ []) ⊢ y ⊗ a ≺ y ⊗ b) (mul_positive y (b -ℚ a) h (lt_sub a b k), tt) refl

pub mul_cancel_le : (y a b : ℚ) → zeroℚ <ℚ y → (y *ℚ a) ≤ℚ (y *ℚ b) → a ≤ℚ b
mul_cancel_le y a b h k = not_lt_le a b (λ l. lt_not_le (y *ℚ b) (y *ℚ a) (mul_lt y b a h l) k)

pub mul_cancel_lt : (y a b : ℚ) → zeroℚ ≤ℚ y → (y *ℚ a) <ℚ (y *ℚ b) → a <ℚ b
mul_cancel_lt y a b h k = not_le_lt a b (λ l. lt_not_le (y *ℚ a) (y *ℚ b) k (mul_le y b a h l))

pub square_nonneg : (a : ℚ) → zeroℚ ≤ℚ (a *ℚ a)
square_nonneg a = ⊎_elim (λ h. mul_nonneg a a h h) (λ h. linear ℚ_ordered (a ∷ []) (λ a. (num 0 ≼ minus a ⊗ minus a ∷ []) ⊢ num 0 ≼ a ⊗ a) (let k : zeroℚ ≤ℚ neg_ℚ a = linear ℚ_ordered (a ∷ []) (λ a. (a ≺ num 0 ∷ []) ⊢ num 0 ≼ minus a) (h, tt) refl in mul_nonneg (neg_ℚ a) (neg_ℚ a) k k, tt) refl) (le_or_gt zeroℚ a)

pub positive_not_zero : (a : ℚ) → zeroℚ <ℚ a → ¬ (a ≡ zeroℚ)
positive_not_zero a h e = lt_irrefl zeroℚ (subst (λ z. zeroℚ <ℚ z) e h)

pub inverse_positive : (a : ℚ) → zeroℚ <ℚ a → zeroℚ <ℚ inverse a
inverse_positive a h = not_le_lt zeroℚ (inverse a) (λ k. contradiction ℚ_ordered (a ∷ inverse a ∷ []) (λ a i. a ⊗ i ≐ num 1 ∷ a ⊗ i ≼ a ⊗ num 0 ∷ []) (mul-inverse a (positive_not_zero a h), (mul_le a (inverse a) zeroℚ (lt_le zeroℚ a h) k, tt)) refl)

-- ---- whole numbers
pub whole_le : (x y : ℤ) → x ≤ℤ y → whole x ≤ℚ whole y
unfolding whole
whole_le x y h = le_ratio_in x 1 y 1 (omega arith) (omega arith) (omega (arith, ints))

pub whole_lt : (x y : ℤ) → x <ℤ y → whole x <ℚ whole y
unfolding whole
whole_lt x y h = lt_ratio_in x 1 y 1 (omega arith) (omega arith) (omega (arith, ints))

pub le_whole : (x y : ℤ) → whole x ≤ℚ whole y → x ≤ℤ y
unfolding whole
le_whole x y h = let k = le_ratio_out x 1 y 1 (omega arith) (omega arith) h in omega (arith, ints)

pub lt_whole : (x y : ℤ) → whole x <ℚ whole y → x <ℤ y
unfolding whole
lt_whole x y h = let k = lt_ratio_out x 1 y 1 (omega arith) (omega arith) h in omega (arith, ints)

-- ---- the middle
pub half-half : halfℚ +ℚ halfℚ ≡ oneℚ
unfolding whole ratio ◌+ℚ◌
half-half = refl

pub half_positive : zeroℚ <ℚ halfℚ
half_positive = linear ℚ_ordered (halfℚ ∷ []) (λ h. (h ⊕ h ≐ num 1 ∷ []) ⊢ num 0 ≺ h) (half-half, tt) refl

pub half-add_half : (x : ℚ) → halfℚ *ℚ x +ℚ halfℚ *ℚ x ≡ x
half-add_half x = combine ℚ_ring (halfℚ ∷ x ∷ []) (λ h x. record { from = (x, h ⊕ h ≐ num 1) ∷ []; goal = h ⊗ x ⊕ h ⊗ x ≐ x }) (half-half, tt) refl

pub below_halfway : (a b : ℚ) → a <ℚ b → a <ℚ halfway a b
below_halfway a b h = linear ℚ_ordered (a ∷ b ∷ halfℚ ∷ []) (λ a b h. (num 0 ≺ h ⊗ (b ⊖ a) ∷ h ⊗ a ⊕ h ⊗ a ≐ a ∷ []) ⊢ a ≺ (a ⊕ b) ⊗ h)
    (mul_positive halfℚ (b -ℚ a) half_positive (lt_sub a b h), (half-add_half a, tt)) refl

pub halfway_below : (a b : ℚ) → a <ℚ b → halfway a b <ℚ b
halfway_below a b h = linear ℚ_ordered (a ∷ b ∷ halfℚ ∷ []) (λ a b h. (num 0 ≺ h ⊗ (b ⊖ a) ∷ h ⊗ b ⊕ h ⊗ b ≐ b ∷ []) ⊢ (a ⊕ b) ⊗ h ≺ b)
    (mul_positive halfℚ (b -ℚ a) half_positive (lt_sub a b h), (half-add_half b, tt)) refl
