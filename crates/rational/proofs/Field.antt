-- The rational numbers are an ordered field.
use Rattle.std.proofs.Common.{◌≡◌, ℕ, ◌*◌, ◌<◌, refl, sym, ◌∙◌, ap, ap₂, subst, arith, [], ◌∷◌}
use Rattle.std.proofs.Math.IntN.{ℤ, pos, negsuc, ◌+ℤ◌, ◌*ℤ◌, neg_ℤ}
use native.Mathlib.Nat.{mul-pos, mul_assoc as mul_assocℕ, mul_comm as mul_commℕ, one-mul}
use Rattle.rational.specs.Rational.{ℚ, ratio, whole, ◌+ℚ◌, ◌*ℚ◌, neg_ℚ}
use Rattle.rational.proofs.Ring.{Ring, lit, minus, ◌⊕◌, ◌⊗◌, num, ◌≐◌, law, combine}
use Rattle.rational.proofs.Integers.{ℤ_ring}
use Rattle.rational.proofs.Fractions.{den_pos, ratio-cross, equal_ratios, ratio-parts}

pub add-ratio : (a : ℤ) (b : ℕ) (c : ℤ) (d : ℕ) → 0 < b → 0 < d → ratio a b +ℚ ratio c d ≡ ratio (a *ℤ pos d +ℤ c *ℤ pos b) (b * d)
unfolding ◌+ℚ◌
add-ratio a b c d h k = equal_ratios _ _ _ _ (mul-pos (den_pos (ratio a b)) (den_pos (ratio c d))) (mul-pos h k)
    (combine ℤ_ring (a ∷ pos b ∷ c ∷ pos d ∷ (ratio a b).num ∷ pos (ratio a b).den ∷ (ratio c d).num ∷ pos (ratio c d).den ∷ [])
    (λ a b c d n m k l. record { from = (l ⊗ d, n ⊗ b ≐ a ⊗ m) ∷ (m ⊗ b, k ⊗ d ≐ c ⊗ l) ∷ []; goal = (n ⊗ l ⊕ k ⊗ m) ⊗ (b ⊗ d) ≐ (a ⊗ d ⊕ c ⊗ b) ⊗ (m ⊗ l) })
    (ratio-cross a b h, (ratio-cross c d k, tt)) refl)

pub mul-ratio : (a : ℤ) (b : ℕ) (c : ℤ) (d : ℕ) → 0 < b → 0 < d → ratio a b *ℚ ratio c d ≡ ratio (a *ℤ c) (b * d)
unfolding ◌*ℚ◌
mul-ratio a b c d h k = equal_ratios _ _ _ _ (mul-pos (den_pos (ratio a b)) (den_pos (ratio c d))) (mul-pos h k)
    (combine ℤ_ring (a ∷ pos b ∷ c ∷ pos d ∷ (ratio a b).num ∷ pos (ratio a b).den ∷ (ratio c d).num ∷ pos (ratio c d).den ∷ [])
    (λ a b c d n m k l. record { from = (k ⊗ d, n ⊗ b ≐ a ⊗ m) ∷ (a ⊗ m, k ⊗ d ≐ c ⊗ l) ∷ []; goal = n ⊗ k ⊗ (b ⊗ d) ≐ a ⊗ c ⊗ (m ⊗ l) })
    (ratio-cross a b h, (ratio-cross c d k, tt)) refl)

pub neg-ratio : (a : ℤ) (b : ℕ) → 0 < b → neg_ℚ (ratio a b) ≡ ratio (neg_ℤ a) b
unfolding neg_ℚ
neg-ratio a b h = equal_ratios _ _ _ _ (den_pos (ratio a b)) h
    (combine ℤ_ring (a ∷ pos b ∷ (ratio a b).num ∷ pos (ratio a b).den ∷ [])
    (λ a b n m. record { from = (minus (num 1), n ⊗ b ≐ a ⊗ m) ∷ []; goal = minus n ⊗ b ≐ minus a ⊗ m })
    (ratio-cross a b h, tt) refl)

-- what holds of each fraction holds of each number
pub by_ratio : (P : ℚ → Type 0) → ((a : ℤ) (b : ℕ) → 0 < b → P (ratio a b)) → (q : ℚ) → P q
by_ratio P f q = subst P (ratio-parts q) (f q.num q.den (den_pos q))

pub add_comm : (q r : ℚ) → q +ℚ r ≡ r +ℚ q
unfolding ◌+ℚ◌
add_comm q r = ap₂ ratio (law ℤ_ring (q.num ∷ pos q.den ∷ r.num ∷ pos r.den ∷ []) (λ qn qd rn rd. qn ⊗ rd ⊕ rn ⊗ qd ≐ rn ⊗ qd ⊕ qn ⊗ rd) refl) (mul_commℕ q.den r.den)

pub mul_comm : (q r : ℚ) → q *ℚ r ≡ r *ℚ q
unfolding ◌*ℚ◌
mul_comm q r = ap₂ ratio (law ℤ_ring (q.num ∷ r.num ∷ []) (λ qn rn. qn ⊗ rn ≐ rn ⊗ qn) refl) (mul_commℕ q.den r.den)

pub add_assoc : (q r s : ℚ) → (q +ℚ r) +ℚ s ≡ q +ℚ (r +ℚ s)
add_assoc = by_ratio _ λ a b h. by_ratio _ λ c d k. by_ratio _ λ e f l.
    ap (λ z. z +ℚ ratio e f) (add-ratio a b c d h k)
    ∙ add-ratio _ (b * d) e f (mul-pos h k) l
    ∙ ap₂ ratio
    (law ℤ_ring (a ∷ pos b ∷ c ∷ pos d ∷ e ∷ pos f ∷ []) (λ a b c d e f. (a ⊗ d ⊕ c ⊗ b) ⊗ f ⊕ e ⊗ (b ⊗ d) ≐ a ⊗ (d ⊗ f) ⊕ (c ⊗ f ⊕ e ⊗ d) ⊗ b) refl)
    (mul_assocℕ b d f)
    ∙ sym (add-ratio a b _ (d * f) h (mul-pos k l))
    ∙ ap (λ z. ratio a b +ℚ z) (sym (add-ratio c d e f k l))

pub mul_assoc : (q r s : ℚ) → (q *ℚ r) *ℚ s ≡ q *ℚ (r *ℚ s)
mul_assoc = by_ratio _ λ a b h. by_ratio _ λ c d k. by_ratio _ λ e f l.
    ap (λ z. z *ℚ ratio e f) (mul-ratio a b c d h k)
    ∙ mul-ratio _ (b * d) e f (mul-pos h k) l
    ∙ ap₂ ratio
    (law ℤ_ring (a ∷ c ∷ e ∷ []) (λ a c e. a ⊗ c ⊗ e ≐ a ⊗ (c ⊗ e)) refl)
    (mul_assocℕ b d f)
    ∙ sym (mul-ratio a b _ (d * f) h (mul-pos k l))
    ∙ ap (λ z. ratio a b *ℚ z) (sym (mul-ratio c d e f k l))

pub mul_add : (q r s : ℚ) → q *ℚ (r +ℚ s) ≡ q *ℚ r +ℚ q *ℚ s
mul_add = by_ratio _ λ a b h. by_ratio _ λ c d k. by_ratio _ λ e f l.
    ap (λ z. ratio a b *ℚ z) (add-ratio c d e f k l)
    ∙ mul-ratio a b _ (d * f) h (mul-pos k l)
    ∙ equal_ratios _ _ _ _ (mul-pos h (mul-pos k l)) (mul-pos (mul-pos h k) (mul-pos h l))
    (law ℤ_ring (a ∷ pos b ∷ c ∷ pos d ∷ e ∷ pos f ∷ []) (λ a b c d e f. a ⊗ (c ⊗ f ⊕ e ⊗ d) ⊗ (b ⊗ d ⊗ (b ⊗ f)) ≐ (a ⊗ c ⊗ (b ⊗ f) ⊕ a ⊗ e ⊗ (b ⊗ d)) ⊗ (b ⊗ (d ⊗ f))) refl)
    ∙ sym (add-ratio _ (b * d) _ (b * f) (mul-pos h k) (mul-pos h l))
    ∙ ap₂ ◌+ℚ◌ (sym (mul-ratio a b c d h k)) (sym (mul-ratio a b e f h l))

pub whole-add : (x y : ℤ) → whole (x +ℤ y) ≡ whole x +ℚ whole y
unfolding whole
whole-add x y = sym (add-ratio x 1 y 1 (omega arith) (omega arith) ∙ ap (λ z. ratio z 1) (law ℤ_ring (x ∷ y ∷ []) (λ x y. x ⊗ num 1 ⊕ y ⊗ num 1 ≐ x ⊕ y) refl))

pub whole-mul : (x y : ℤ) → whole (x *ℤ y) ≡ whole x *ℚ whole y
unfolding whole
whole-mul x y = sym (mul-ratio x 1 y 1 (omega arith) (omega arith))

pub zero_add : (q : ℚ) → whole (pos 0) +ℚ q ≡ q
unfolding whole
zero_add = by_ratio _ λ a b h. add-ratio (pos 0) 1 a b (omega arith) h ∙ ap₂ ratio (law ℤ_ring (a ∷ pos b ∷ []) (λ a b. num 0 ⊗ b ⊕ a ⊗ num 1 ≐ a) refl) (one-mul b)

pub one_mul : (q : ℚ) → whole (pos 1) *ℚ q ≡ q
unfolding whole
one_mul = by_ratio _ λ a b h. mul-ratio (pos 1) 1 a b (omega arith) h ∙ ap₂ ratio (law ℤ_ring (a ∷ []) (λ a. num 1 ⊗ a ≐ a) refl) (one-mul b)

pub zero_mul : (q : ℚ) → whole (pos 0) *ℚ q ≡ whole (pos 0)
unfolding whole
zero_mul = by_ratio _ λ a b h. mul-ratio (pos 0) 1 a b (omega arith) h ∙ equal_ratios _ _ _ _ (mul-pos (one_pos) h) one_pos (law ℤ_ring (a ∷ pos b ∷ []) (λ a b. num 0 ⊗ a ⊗ num 1 ≐ num 0 ⊗ (num 1 ⊗ b)) refl)
  where
    one_pos : 0 < 1
    one_pos = omega arith

pub neg_is_times : (q : ℚ) → neg_ℚ q ≡ whole (negsuc 0) *ℚ q
unfolding whole
neg_is_times = by_ratio _ λ a b h. neg-ratio a b h ∙ ap₂ ratio (law ℤ_ring (a ∷ []) (λ a. minus a ≐ lit (negsuc 0) ⊗ a) refl) (sym (one-mul b)) ∙ sym (mul-ratio (negsuc 0) 1 a b (omega arith) h)

abbrev pub ℚ_ring : Ring
ℚ_ring = record { A = ℚ; add = ◌+ℚ◌; mul = ◌*ℚ◌; neg = neg_ℚ; of = whole; add_assoc = add_assoc; add_comm = add_comm; zero_add = zero_add; mul_assoc = mul_assoc; mul_comm = mul_comm; one_mul = one_mul; zero_mul = zero_mul; mul_add = mul_add; of_add = whole-add; of_mul = whole-mul; neg_is = neg_is_times }
