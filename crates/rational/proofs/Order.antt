-- The order of the rational numbers.
use Rattle.std.proofs.Common.{◌≡◌, ℕ, zero, suc, ◌*◌, ◌<◌, refl, sym, ◌∙◌, ap, ap₂, subst, arith, [], ◌∷◌, ◌⊎◌, inl, inr, ◌≤ℤ◌, ◌<ℤ◌}
use Rattle.std.proofs.Math.IntN.{ℤ, pos, negsuc, ◌+ℤ◌, ◌*ℤ◌, neg_ℤ}
use Rattle.std.proofs.lemmas.Int.{ints, by_lt_z}
use native.Mathlib.Nat.{mul-pos, mul-le-mul_right, mul-lt-mul_of_pos_right, le_of_mul-le-mul_right, lt_of_mul-lt-mul_right, zero-lt-suc}
use borrow.Author.Differences.{product_is, le_out, lt_out, at_most_in, below_in}
use Rattle.rational.specs.Rational.{ℚ, ratio, whole, ◌+ℚ◌, ◌*ℚ◌, neg_ℚ, inverse, reciprocal, ◌≤ℚ◌, ◌<ℚ◌}
use Rattle.rational.proofs.Ring.{minus, ◌⊕◌, ◌⊗◌, ◌⊖◌, num, ◌≐◌, law, combine}
use Rattle.rational.proofs.Integers.{ℤ_ring}
use Rattle.rational.proofs.Fractions.{den_pos, equal_from_cross, ratio-cross, equal_ratios, ratio-parts}
use Rattle.rational.proofs.Field.{add-ratio, mul-ratio, neg-ratio, ℚ_ring}
use Rattle.rational.proofs.Linear.{Ordered}

-- ---- ℤ: a positive factor keeps the order, both ways
times_le : (x y : ℤ) (k : ℕ) → x ≤ℤ y → (x *ℤ pos k) ≤ℤ (y *ℤ pos k)
times_le x y k h = at_most_in _ _ (omega (arith, product_is x (pos k), product_is y (pos k), mul-le-mul_right k (le_out x y h)))

times_lt : (x y : ℤ) (k : ℕ) → 0 < k → x <ℤ y → (x *ℤ pos k) <ℤ (y *ℤ pos k)
times_lt x y k p h = below_in _ _ (omega (arith, product_is x (pos k), product_is y (pos k), mul-lt-mul_of_pos_right (lt_out x y h) p))

untimes_le : (x y : ℤ) (k : ℕ) → 0 < k → (x *ℤ pos k) ≤ℤ (y *ℤ pos k) → x ≤ℤ y
untimes_le x y k p h = at_most_in x y (le_of_mul-le-mul_right (omega (arith, product_is x (pos k), product_is y (pos k), le_out _ _ h)) p)

untimes_lt : (x y : ℤ) (k : ℕ) → (x *ℤ pos k) <ℤ (y *ℤ pos k) → x <ℤ y
untimes_lt x y k h = below_in x y (lt_of_mul-lt-mul_right k (omega (arith, product_is x (pos k), product_is y (pos k), lt_out _ _ h)))

same_le : (x y u v : ℤ) (k m : ℕ) → 0 < m → x *ℤ pos k ≡ u *ℤ pos m → y *ℤ pos k ≡ v *ℤ pos m → x ≤ℤ y → u ≤ℤ v
same_le x y u v k m p e f h = untimes_le u v m p (subst (λ (z : ℤ). z ≤ℤ (v *ℤ pos m)) e (subst (λ (z : ℤ). (x *ℤ pos k) ≤ℤ z) f (times_le x y k h)))

same_lt : (x y u v : ℤ) (k m : ℕ) → 0 < k → x *ℤ pos k ≡ u *ℤ pos m → y *ℤ pos k ≡ v *ℤ pos m → x <ℤ y → u <ℤ v
same_lt x y u v k m p e f h = untimes_lt u v m (subst (λ (z : ℤ). z <ℤ (v *ℤ pos m)) e (subst (λ (z : ℤ). (x *ℤ pos k) <ℤ z) f (times_lt x y k p h)))

left : (a : ℤ) (b : ℕ) (c : ℤ) (d : ℕ) → 0 < b → 0 < d → ((ratio a b).num *ℤ pos (ratio c d).den) *ℤ pos (b * d) ≡ (a *ℤ pos d) *ℤ pos ((ratio a b).den * (ratio c d).den)
left a b c d h k = combine ℤ_ring (a ∷ pos b ∷ pos d ∷ (ratio a b).num ∷ pos (ratio a b).den ∷ pos (ratio c d).den ∷ [])
    (λ a b d n m k. record { from = (k ⊗ d, n ⊗ b ≐ a ⊗ m) ∷ []; goal = n ⊗ k ⊗ (b ⊗ d) ≐ a ⊗ d ⊗ (m ⊗ k) })
    (ratio-cross a b h, tt) refl

right : (a : ℤ) (b : ℕ) (c : ℤ) (d : ℕ) → 0 < b → 0 < d → ((ratio c d).num *ℤ pos (ratio a b).den) *ℤ pos (b * d) ≡ (c *ℤ pos b) *ℤ pos ((ratio a b).den * (ratio c d).den)
right a b c d h k = combine ℤ_ring (c ∷ pos b ∷ pos d ∷ (ratio c d).num ∷ pos (ratio a b).den ∷ pos (ratio c d).den ∷ [])
    (λ c b d n m k. record { from = (m ⊗ b, n ⊗ d ≐ c ⊗ k) ∷ []; goal = n ⊗ m ⊗ (b ⊗ d) ≐ c ⊗ b ⊗ (m ⊗ k) })
    (ratio-cross c d k, tt) refl

dens_pos : (q r : ℚ) → 0 < q.den * r.den
dens_pos q r = mul-pos (den_pos q) (den_pos r)

pub le_ratio_out : (a : ℤ) (b : ℕ) (c : ℤ) (d : ℕ) → 0 < b → 0 < d → ratio a b ≤ℚ ratio c d → (a *ℤ pos d) ≤ℤ (c *ℤ pos b)
le_ratio_out a b c d h k l = same_le _ _ _ _ (b * d) ((ratio a b).den * (ratio c d).den) (dens_pos (ratio a b) (ratio c d)) (left a b c d h k) (right a b c d h k) l.le

pub le_ratio_in : (a : ℤ) (b : ℕ) (c : ℤ) (d : ℕ) → 0 < b → 0 < d → (a *ℤ pos d) ≤ℤ (c *ℤ pos b) → ratio a b ≤ℚ ratio c d
le_ratio_in a b c d h k l = record { le = same_le _ _ _ _ ((ratio a b).den * (ratio c d).den) (b * d) (mul-pos h k) (sym (left a b c d h k)) (sym (right a b c d h k)) l }

pub lt_ratio_out : (a : ℤ) (b : ℕ) (c : ℤ) (d : ℕ) → 0 < b → 0 < d → ratio a b <ℚ ratio c d → (a *ℤ pos d) <ℤ (c *ℤ pos b)
lt_ratio_out a b c d h k l = same_lt _ _ _ _ (b * d) ((ratio a b).den * (ratio c d).den) (mul-pos h k) (left a b c d h k) (right a b c d h k) l.lt

pub lt_ratio_in : (a : ℤ) (b : ℕ) (c : ℤ) (d : ℕ) → 0 < b → 0 < d → (a *ℤ pos d) <ℤ (c *ℤ pos b) → ratio a b <ℚ ratio c d
lt_ratio_in a b c d h k l = record { lt = same_lt _ _ _ _ ((ratio a b).den * (ratio c d).den) (b * d) (dens_pos (ratio a b) (ratio c d)) (sym (left a b c d h k)) (sym (right a b c d h k)) l }

-- ---- with 0
one_pos : 0 < 1
one_pos = omega arith

pub nonneg_in : (a : ℤ) (b : ℕ) → 0 < b → pos 0 ≤ℤ a → whole (pos 0) ≤ℚ ratio a b
unfolding whole
nonneg_in a b h l = le_ratio_in (pos 0) 1 a b one_pos h (at_most_in _ _ (omega (arith, product_is (pos 0) (pos b), product_is a (pos 1), le_out _ _ l)))

pub nonneg_out : (a : ℤ) (b : ℕ) → 0 < b → whole (pos 0) ≤ℚ ratio a b → pos 0 ≤ℤ a
unfolding whole
nonneg_out a b h l = at_most_in _ _ (omega (arith, product_is (pos 0) (pos b), product_is a (pos 1), le_out _ _ (le_ratio_out (pos 0) 1 a b one_pos h l)))

pub positive_in : (a : ℤ) (b : ℕ) → 0 < b → pos 0 <ℤ a → whole (pos 0) <ℚ ratio a b
unfolding whole
positive_in a b h l = lt_ratio_in (pos 0) 1 a b one_pos h (below_in _ _ (omega (arith, product_is (pos 0) (pos b), product_is a (pos 1), lt_out _ _ l)))

pub positive_out : (a : ℤ) (b : ℕ) → 0 < b → whole (pos 0) <ℚ ratio a b → pos 0 <ℤ a
unfolding whole
positive_out a b h l = below_in _ _ (omega (arith, product_is (pos 0) (pos b), product_is a (pos 1), lt_out _ _ (lt_ratio_out (pos 0) 1 a b one_pos h l)))

-- r - q, by the parts of q and r
difference-is : (q r : ℚ) → r +ℚ neg_ℚ q ≡ ratio (r.num *ℤ pos q.den +ℤ neg_ℤ (q.num *ℤ pos r.den)) (r.den * q.den)
difference-is q r =
    ap₂ (λ x y. x +ℚ neg_ℚ y) (sym (ratio-parts r)) (sym (ratio-parts q))
    ∙ ap (λ z. ratio r.num r.den +ℚ z) (neg-ratio q.num q.den (den_pos q))
    ∙ add-ratio r.num r.den (neg_ℤ q.num) q.den (den_pos r) (den_pos q)
    ∙ ap (λ z. ratio z (r.den * q.den)) (law ℤ_ring (q.num ∷ pos q.den ∷ r.num ∷ pos r.den ∷ []) (λ qn qd rn rd. rn ⊗ qd ⊕ minus qn ⊗ rd ≐ rn ⊗ qd ⊖ qn ⊗ rd) refl)

pub le_sub : (q r : ℚ) → q ≤ℚ r → whole (pos 0) ≤ℚ (r +ℚ neg_ℚ q)
le_sub q r h = subst (λ z. whole (pos 0) ≤ℚ z) (sym (difference-is q r)) (nonneg_in _ _ (dens_pos r q) (shift _ _ h.le))
  where
    shift : (x y : ℤ) → x ≤ℤ y → pos 0 ≤ℤ (y +ℤ neg_ℤ x)
    shift x y l = omega (arith, ints)

pub sub_le : (q r : ℚ) → whole (pos 0) ≤ℚ (r +ℚ neg_ℚ q) → q ≤ℚ r
sub_le q r h = record { le = shift _ _ (nonneg_out _ _ (dens_pos r q) (subst (λ z. whole (pos 0) ≤ℚ z) (difference-is q r) h)) }
  where
    shift : (x y : ℤ) → pos 0 ≤ℤ (y +ℤ neg_ℤ x) → x ≤ℤ y
    shift x y l = omega (arith, ints)

pub lt_sub : (q r : ℚ) → q <ℚ r → whole (pos 0) <ℚ (r +ℚ neg_ℚ q)
lt_sub q r h = subst (λ z. whole (pos 0) <ℚ z) (sym (difference-is q r)) (positive_in _ _ (dens_pos r q) (shift _ _ h.lt))
  where
    shift : (x y : ℤ) → x <ℤ y → pos 0 <ℤ (y +ℤ neg_ℤ x)
    shift x y l = omega (arith, ints)

pub sub_lt : (q r : ℚ) → whole (pos 0) <ℚ (r +ℚ neg_ℚ q) → q <ℚ r
sub_lt q r h = record { lt = shift _ _ (positive_out _ _ (dens_pos r q) (subst (λ z. whole (pos 0) <ℚ z) (difference-is q r) h)) }
  where
    shift : (x y : ℤ) → pos 0 <ℤ (y +ℤ neg_ℤ x) → x <ℤ y
    shift x y l = omega (arith, ints)

nonneg-mul : (a c : ℤ) → pos 0 ≤ℤ a → pos 0 ≤ℤ c → pos 0 ≤ℤ (a *ℤ c)
nonneg-mul (pos a) (pos c) h k = omega (arith, ints)
nonneg-mul (pos a) (negsuc c) h k = absurd (omega (arith, ints))
nonneg-mul (negsuc a) c h k = absurd (omega (arith, ints))

positive-mul : (a c : ℤ) → pos 0 <ℤ a → pos 0 <ℤ c → pos 0 <ℤ (a *ℤ c)
positive-mul (pos a) (pos c) h k = let p : 0 < a = omega (arith, ints) in let q : 0 < c = omega (arith, ints) in below_in _ _ (omega (arith, mul-pos p q))
positive-mul (pos a) (negsuc c) h k = absurd (omega (arith, ints))
positive-mul (negsuc a) c h k = absurd (omega (arith, ints))

pos-nonneg : (n : ℕ) → pos 0 ≤ℤ pos n
pos-nonneg n = omega (arith, ints)

pos-positive : (n : ℕ) → 0 < n → pos 0 <ℤ pos n
pos-positive n h = omega (arith, ints)

nonneg-add : (a c : ℤ) → pos 0 ≤ℤ a → pos 0 ≤ℤ c → pos 0 ≤ℤ (a +ℤ c)
nonneg-add a c h k = omega (arith, ints)

positive-add : (a c : ℤ) → pos 0 <ℤ a → pos 0 ≤ℤ c → pos 0 <ℤ (a +ℤ c)
positive-add a c h k = omega (arith, ints)

pub nonneg_num : (q : ℚ) → whole (pos 0) ≤ℚ q → pos 0 ≤ℤ q.num
nonneg_num q h = nonneg_out q.num q.den (den_pos q) (subst (λ z. whole (pos 0) ≤ℚ z) (sym (ratio-parts q)) h)

pub positive_num : (q : ℚ) → whole (pos 0) <ℚ q → pos 0 <ℤ q.num
positive_num q h = positive_out q.num q.den (den_pos q) (subst (λ z. whole (pos 0) <ℚ z) (sym (ratio-parts q)) h)

pub add_nonneg : (q r : ℚ) → whole (pos 0) ≤ℚ q → whole (pos 0) ≤ℚ r → whole (pos 0) ≤ℚ (q +ℚ r)
unfolding ◌+ℚ◌
add_nonneg q r h k = nonneg_in _ _ (dens_pos q r) (nonneg-add _ _ (nonneg-mul _ _ (nonneg_num q h) (pos-nonneg r.den)) (nonneg-mul _ _ (nonneg_num r k) (pos-nonneg q.den)))

pub add_positive : (q r : ℚ) → whole (pos 0) <ℚ q → whole (pos 0) ≤ℚ r → whole (pos 0) <ℚ (q +ℚ r)
unfolding ◌+ℚ◌
add_positive q r h k = positive_in _ _ (dens_pos q r) (positive-add _ _ (positive-mul _ _ (positive_num q h) (pos-positive r.den (den_pos r))) (nonneg-mul _ _ (nonneg_num r k) (pos-nonneg q.den)))

pub mul_nonneg : (q r : ℚ) → whole (pos 0) ≤ℚ q → whole (pos 0) ≤ℚ r → whole (pos 0) ≤ℚ (q *ℚ r)
unfolding ◌*ℚ◌
mul_nonneg q r h k = nonneg_in _ _ (dens_pos q r) (nonneg-mul _ _ (nonneg_num q h) (nonneg_num r k))

pub mul_positive : (q r : ℚ) → whole (pos 0) <ℚ q → whole (pos 0) <ℚ r → whole (pos 0) <ℚ (q *ℚ r)
unfolding ◌*ℚ◌
mul_positive q r h k = positive_in _ _ (dens_pos q r) (positive-mul _ _ (positive_num q h) (positive_num r k))

pub lt_le : (q r : ℚ) → q <ℚ r → q ≤ℚ r
lt_le q r h = record { le = weaker _ _ h.lt }
  where
    weaker : (x y : ℤ) → x <ℤ y → x ≤ℤ y
    weaker x y l = omega (arith, ints)

pub whole_nonneg : (n : ℕ) → whole (pos 0) ≤ℚ whole (pos n)
unfolding whole
whole_nonneg n = nonneg_in (pos n) 1 one_pos (pos-nonneg n)

pub whole_positive : (n : ℕ) → whole (pos 0) <ℚ whole (pos (suc n))
unfolding whole
whole_positive n = positive_in (pos (suc n)) 1 one_pos (pos-positive (suc n) (omega arith))

pub lt_irrefl : (q : ℚ) → q <ℚ q → ⊥
lt_irrefl q h = not_below _ h.lt
  where
    not_below : (x : ℤ) → x <ℤ x → ⊥
    not_below x l = omega (arith, ints)

-- ---- a total order
pub le_or_gt : (q r : ℚ) → (q ≤ℚ r) ⊎ (r <ℚ q)
le_or_gt q r = by_lt_z (r.num *ℤ pos q.den) (q.num *ℤ pos r.den) (λ l. inr record { lt = l }) (λ l. inl record { le = l })

pub le_antisymm : (q r : ℚ) → q ≤ℚ r → r ≤ℚ q → q ≡ r
le_antisymm q r h k = equal_from_cross q r (both_ways _ _ h.le k.le)
  where
    both_ways : (x y : ℤ) → x ≤ℤ y → y ≤ℤ x → x ≡ y
    both_ways x y l m = omega (arith, ints)

abbrev pub ℚ_ordered : Ordered
ℚ_ordered = record {
  r = ℚ_ring;
  le = ◌≤ℚ◌;
  lt = ◌<ℚ◌;
  le_sub = le_sub;
  lt_sub = lt_sub;
  add_le = add_nonneg;
  add_lt = add_positive;
  mul_le = mul_nonneg;
  mul_lt = mul_positive;
  of_le = whole_nonneg;
  of_lt = whole_positive;
  lt_le = lt_le;
  lt_irrefl = lt_irrefl;
  le_or_gt = le_or_gt;
  antisym = le_antisymm;
}

-- ---- the inverse
not_zero : (q : ℚ) → ¬ (q ≡ whole (pos 0)) → ¬ (q.num ≡ pos 0)
unfolding whole
not_zero q n e = n (equal_from_cross q (ratio (pos 0) 1) (ap (λ z. z *ℤ pos (ratio (pos 0) 1).den) e ∙ sym (zeros q.den)))
  where
    zeros : (d : ℕ) → (ratio (pos 0) 1).num *ℤ pos d ≡ pos 0 *ℤ pos (ratio (pos 0) 1).den
    zeros d = combine ℤ_ring ((ratio (pos 0) 1).num ∷ pos d ∷ pos (ratio (pos 0) 1).den ∷ [])
        (λ n d m. record { from = (d, n ⊗ num 1 ≐ num 0 ⊗ m) ∷ []; goal = n ⊗ d ≐ num 0 ⊗ m })
        (ratio-cross (pos 0) 1 one_pos, tt) refl

pub mul-inverse : (q : ℚ) → ¬ (q ≡ whole (pos 0)) → q *ℚ inverse q ≡ whole (pos 1)
unfolding inverse whole
mul-inverse q n = ap (λ z. z *ℚ reciprocal q.num q.den) (sym (ratio-parts q)) ∙ go q.num q.den (den_pos q) (not_zero q n)
  where
    one : (n d : ℕ) → 0 < n → 0 < d → (pos n *ℤ pos d) *ℤ pos 1 ≡ pos 1 *ℤ pos (d * n)
    one n d h k = omega (arith, ints)

    other : (n d : ℕ) → (negsuc n *ℤ neg_ℤ (pos d)) *ℤ pos 1 ≡ pos 1 *ℤ pos (d * suc n)
    other n d = law ℤ_ring (pos (suc n) ∷ pos d ∷ []) (λ n d. minus n ⊗ minus d ⊗ num 1 ≐ num 1 ⊗ (d ⊗ n)) refl

    go : (n : ℤ) (d : ℕ) → 0 < d → ¬ (n ≡ pos 0) → ratio n d *ℚ reciprocal n d ≡ ratio (pos 1) 1
    go (pos zero) d h e = absurd (e refl)
    go (pos (suc n)) d h e = mul-ratio (pos (suc n)) d (pos d) (suc n) h (zero-lt-suc n) ∙ equal_ratios _ _ _ _ (mul-pos h (zero-lt-suc n)) one_pos (one (suc n) d (zero-lt-suc n) h)
    go (negsuc n) d h e = mul-ratio (negsuc n) d (neg_ℤ (pos d)) (suc n) h (zero-lt-suc n) ∙ equal_ratios _ _ _ _ (mul-pos h (zero-lt-suc n)) one_pos (other n d)
