-- When two fractions are one number, and what the operations give on fractions.
use Rattle.std.proofs.Common.{◌≡◌, ℕ, zero, suc, ◌*◌, ◌/◌, ◌<◌, refl, sym, ◌∙◌, ap, subst, arith, T, [], ◌∷◌}
use Rattle.std.proofs.Math.IntN.{ℤ, pos, ◌*ℤ◌, nat_abs}
use Rattle.std.proofs.lemmas.Int.{unsigned_abs-mul}
use native.Mathlib.Nat.{div-mul_cancel, eq_of_mul-eq-mul_right}
use mathlib.Core.HLevel.{is_prop→PathP}
use lib.Dec.{T_prop}
use borrow.Author.Differences.{up, down, same_in, same_out, product_is}
use Rattle.rational.specs.Gcd.{gcd}
use Rattle.rational.specs.Divisors.{gcd-is, same_denominator}
use Rattle.rational.specs.Lowest.{is_lowest, over, over-times, lowest_out}
use Rattle.rational.specs.Rational.{ℚ, ratio}
use Rattle.rational.proofs.Ring.{minus, ◌⊗◌, ◌≐◌, law, combine}
use Rattle.rational.proofs.Integers.{ℤ_ring}

pub den_pos : (q : ℚ) → 0 < q.den
den_pos q = (lowest_out q.num q.den q.lowest).0

pub same_parts : (q r : ℚ) → q.num ≡ r.num → q.den ≡ r.den → q ≡ r
same_parts q r e f = λ i. record { num = e i; den = f i; lowest = is_prop→PathP (λ j. T (is_lowest (e j) (f j))) (λ j. T_prop (is_lowest (e j) (f j))) q.lowest r.lowest i }

pub cancel : (x y : ℤ) (k : ℕ) → 0 < k → x *ℤ pos k ≡ y *ℤ pos k → x ≡ y
cancel x y k h e = same_in x y (omega (arith, ups, downs))
  where
    ups : up x ≡ up y
    ups = eq_of_mul-eq-mul_right k h (up x) (up y) (omega (arith, product_is x (pos k), product_is y (pos k), same_out (x *ℤ pos k) (y *ℤ pos k) e))

    downs : down x ≡ down y
    downs = eq_of_mul-eq-mul_right k h (down x) (down y) (omega (arith, product_is x (pos k), product_is y (pos k), same_out (x *ℤ pos k) (y *ℤ pos k) e))

-- equal as fractions, equal as numbers
pub equal_from_cross : (q r : ℚ) → q.num *ℤ pos r.den ≡ r.num *ℤ pos q.den → q ≡ r
equal_from_cross q r e = same_parts q r (cancel q.num r.num q.den (den_pos q) (subst (λ (d : ℕ). q.num *ℤ pos d ≡ r.num *ℤ pos q.den) (sym dens) e)) dens
  where
    sizes : nat_abs q.num * r.den ≡ nat_abs r.num * q.den
    sizes = sym (unsigned_abs-mul q.num (pos r.den)) ∙ ap nat_abs e ∙ unsigned_abs-mul r.num (pos q.den)

    dens : q.den ≡ r.den
    dens = same_denominator (nat_abs q.num) q.den (nat_abs r.num) r.den (lowest_out q.num q.den q.lowest).1 (lowest_out r.num r.den r.lowest).1 sizes

over-cross : (a : ℤ) (b : ℕ) → over a (gcd (nat_abs a) b) *ℤ pos b ≡ a *ℤ pos (b / gcd (nat_abs a) b)
over-cross a b =
    ap (λ (d : ℕ). o *ℤ pos d) (sym (div-mul_cancel g (gcd-is (nat_abs a) b).1))
    ∙ law ℤ_ring (o ∷ pos (b / g) ∷ pos g ∷ []) (λ o n g. o ⊗ (n ⊗ g) ≐ o ⊗ g ⊗ n) refl
    ∙ ap (λ z. z *ℤ pos (b / g)) (over-times a b)
  where
    g : ℕ
    g = gcd (nat_abs a) b

    o : ℤ
    o = over a (gcd (nat_abs a) b)

pub ratio-cross : (a : ℤ) (b : ℕ) → 0 < b → (ratio a b).num *ℤ pos b ≡ a *ℤ pos (ratio a b).den
unfolding ratio
ratio-cross a zero h = absurd (omega arith)
ratio-cross a (suc d) h = over-cross a (suc d)

pub cross_from_equal : (a : ℤ) (b : ℕ) (c : ℤ) (d : ℕ) → 0 < b → 0 < d → ratio a b ≡ ratio c d → a *ℤ pos d ≡ c *ℤ pos b
cross_from_equal a b c d h k e = cancel (a *ℤ pos d) (c *ℤ pos b) (ratio a b).den (den_pos (ratio a b))
    (combine ℤ_ring (a ∷ pos b ∷ c ∷ pos d ∷ (ratio a b).num ∷ pos (ratio a b).den ∷ [])
    (λ a b c d n m. record { from = (minus d, n ⊗ b ≐ a ⊗ m) ∷ (b, n ⊗ d ≐ c ⊗ m) ∷ []; goal = a ⊗ d ⊗ m ≐ c ⊗ b ⊗ m })
    (ratio-cross a b h, (subst (λ (q : ℚ). q.num *ℤ pos d ≡ c *ℤ pos q.den) (sym e) (ratio-cross c d k), tt)) refl)

pub equal_ratios : (a : ℤ) (b : ℕ) (c : ℤ) (d : ℕ) → 0 < b → 0 < d → a *ℤ pos d ≡ c *ℤ pos b → ratio a b ≡ ratio c d
equal_ratios a b c d h k e = equal_from_cross (ratio a b) (ratio c d)
    (cancel _ _ b h (cancel _ _ d k
    (combine ℤ_ring (a ∷ pos b ∷ c ∷ pos d ∷ (ratio a b).num ∷ pos (ratio a b).den ∷ (ratio c d).num ∷ pos (ratio c d).den ∷ [])
    (λ a b c d n m k l. record { from = (l ⊗ d, n ⊗ b ≐ a ⊗ m) ∷ (minus (m ⊗ b), k ⊗ d ≐ c ⊗ l) ∷ (m ⊗ l, a ⊗ d ≐ c ⊗ b) ∷ []; goal = n ⊗ l ⊗ b ⊗ d ≐ k ⊗ m ⊗ b ⊗ d })
    (ratio-cross a b h, (ratio-cross c d k, (e, tt))) refl)))

pub ratio-parts : (q : ℚ) → ratio q.num q.den ≡ q
ratio-parts q = equal_from_cross (ratio q.num q.den) q (ratio-cross q.num q.den (den_pos q))

-- a number in lowest terms keeps its parts
pub ratio-den : (n : ℤ) (d : ℕ) → T (is_lowest n d) → (ratio n d).den ≡ d
ratio-den n d t = same_denominator (nat_abs (ratio n d).num) (ratio n d).den (nat_abs n) d (lowest_out (ratio n d).num (ratio n d).den (ratio n d).lowest).1 (lowest_out n d t).1
    (sym (unsigned_abs-mul (ratio n d).num (pos d)) ∙ ap nat_abs (ratio-cross n d (lowest_out n d t).0) ∙ unsigned_abs-mul n (pos (ratio n d).den))

pub ratio-num : (n : ℤ) (d : ℕ) → T (is_lowest n d) → (ratio n d).num ≡ n
ratio-num n d t = cancel (ratio n d).num n d (lowest_out n d t).0 (ratio-cross n d (lowest_out n d t).0 ∙ ap (λ (k : ℕ). n *ℤ pos k) (ratio-den n d t))
