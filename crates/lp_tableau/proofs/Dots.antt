-- Sums of products in which one place is changed.
use Rattle.std.proofs.Common.{◌≡◌, ℕ, zero, suc, ◌<◌, List, [], ◌∷◌, length, refl, ap, ◌∙◌, set, arith}
use Rattle.rational.specs.Rational.{ℚ, zeroℚ, ◌+ℚ◌, ◌*ℚ◌, ◌-ℚ◌, neg_ℚ, inverse}
use Rattle.rational.specs.Lists.{dot, scale_list, at}
use Rattle.rational.proofs.Ring.{law, combine, minus, ◌⊕◌, ◌⊗◌, ◌⊖◌, ◌≐◌, num}
use Rattle.rational.proofs.Field.{ℚ_ring}
use Rattle.rational.proofs.Order.{mul-inverse}
use Rattle.rational.proofs.Lists.{dot-add, dot-scale, at-scale_list, length-scale_list}
use Rattle.lp_tableau.specs.Pivots.{solved, replaced, cleared}

pub dot-set : (u v : List ℚ) (j : ℕ) (b y : ℚ) → j < length u → j < length v → dot (set u j b) (set v j y) ≡ dot u v -ℚ at u j *ℚ at v j +ℚ b *ℚ y
dot-set [] v j b y h k = absurd (omega arith)
dot-set (a ∷ u) [] j b y h k = absurd (omega arith)
dot-set (a ∷ u) (c ∷ v) zero b y h k = law ℚ_ring (a ∷ c ∷ b ∷ y ∷ dot u v ∷ []) (λ a c b y s. b ⊗ y ⊕ s ≐ (a ⊗ c ⊕ s) ⊖ a ⊗ c ⊕ b ⊗ y) refl
dot-set (a ∷ u) (c ∷ v) (suc j) b y h k =
    ap (λ z. a *ℚ c +ℚ z) (dot-set u v j b y (omega arith) (omega arith))
    ∙ law ℚ_ring (a ∷ c ∷ b ∷ y ∷ dot u v ∷ at u j ∷ at v j ∷ []) (λ a c b y s p q. a ⊗ c ⊕ (s ⊖ p ⊗ q ⊕ b ⊗ y) ≐ (a ⊗ c ⊕ s) ⊖ p ⊗ q ⊕ b ⊗ y) refl

-- the solved row, where the leaving variable's value y stands in column j
pub dot-solved : (row v : List ℚ) (j : ℕ) (y : ℚ) → j < length row → j < length v → ¬ (at row j ≡ zeroℚ)
    → dot (solved row j) (set v j y) ≡ at v j +ℚ inverse (at row j) *ℚ (y -ℚ dot row v)
dot-solved row v j y h k n =
    let i : ℚ = inverse (at row j) in
    dot-set (scale_list (neg_ℚ i) row) v j i y (omega (arith, h, length-scale_list (neg_ℚ i) row)) k
    ∙ ap (λ z. z -ℚ at (scale_list (neg_ℚ i) row) j *ℚ at v j +ℚ i *ℚ y) (dot-scale (neg_ℚ i) row v)
    ∙ ap (λ z. neg_ℚ i *ℚ dot row v -ℚ z *ℚ at v j +ℚ i *ℚ y) (at-scale_list (neg_ℚ i) row j)
    ∙ combine ℚ_ring (at row j ∷ i ∷ dot row v ∷ at v j ∷ y ∷ [])
    (λ p i s e y. record { from = (e, p ⊗ i ≐ num 1) ∷ []; goal = minus i ⊗ s ⊖ minus i ⊗ p ⊗ e ⊕ i ⊗ y ≐ e ⊕ i ⊗ (y ⊖ s) })
    (mul-inverse (at row j) n, tt) refl

-- a replaced row says what the old row says, but for what the solved row misses
pub dot-replaced : (solution row v : List ℚ) (j : ℕ) (y : ℚ) → j < length row → j < length v
    → dot (replaced solution j row) (set v j y) ≡ dot row v +ℚ at row j *ℚ (dot solution (set v j y) -ℚ at v j)
dot-replaced solution row v j y h k =
    dot-add (cleared row j) (scale_list (at row j) solution) (set v j y)
    ∙ ap (λ z. z +ℚ dot (scale_list (at row j) solution) (set v j y)) (dot-set row v j zeroℚ y h k)
    ∙ ap (λ z. dot row v -ℚ at row j *ℚ at v j +ℚ zeroℚ *ℚ y +ℚ z) (dot-scale (at row j) solution (set v j y))
    ∙ law ℚ_ring (dot row v ∷ at row j ∷ at v j ∷ y ∷ dot solution (set v j y) ∷ []) (λ s f e y t. s ⊖ f ⊗ e ⊕ num 0 ⊗ y ⊕ f ⊗ t ≐ s ⊕ f ⊗ (t ⊖ e)) refl

-- the solved equation says what the row says
pub solved-onward : (e i y s : ℚ) → y ≡ s → e ≡ e +ℚ i *ℚ (y -ℚ s)
solved-onward e i y s h = combine ℚ_ring (e ∷ i ∷ y ∷ s ∷ []) (λ e i y s. record { from = (minus i, y ≐ s) ∷ []; goal = e ≐ e ⊕ i ⊗ (y ⊖ s) }) (h, tt) refl

pub solved-back : (p e y s : ℚ) → ¬ (p ≡ zeroℚ) → e ≡ e +ℚ inverse p *ℚ (y -ℚ s) → y ≡ s
solved-back p e y s n h = combine ℚ_ring (p ∷ inverse p ∷ e ∷ y ∷ s ∷ [])
    (λ p i e y s. record { from = (minus p, e ≐ e ⊕ i ⊗ (y ⊖ s)) ∷ (minus (y ⊖ s), p ⊗ i ≐ num 1) ∷ []; goal = y ≐ s }) (h, (mul-inverse p n, tt)) refl

pub replaced-is : (s f t e : ℚ) → e ≡ t → s +ℚ f *ℚ (t -ℚ e) ≡ s
replaced-is s f t e h = combine ℚ_ring (s ∷ f ∷ t ∷ e ∷ []) (λ s f t e. record { from = (minus f, e ≐ t) ∷ []; goal = s ⊕ f ⊗ (t ⊖ e) ≐ s }) (h, tt) refl
