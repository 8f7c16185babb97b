-- Linear functions of the time, from a moment on: at least 0 at both ends of a segment exactly where at least 0 strictly between.
use Rattle.std.proofs.Common.{◌≡◌, refl, sym, subst, [], ◌∷◌}
use Rattle.rational.specs.Rational.{ℚ, zeroℚ, ◌+ℚ◌, ◌*ℚ◌, ◌-ℚ◌, ◌≤ℚ◌, ◌<ℚ◌}
use Rattle.rational.specs.Segment.{along, NonnegBetween}
use Rattle.rational.proofs.Segments.{between as nonneg_between, ends_from_between}
use Rattle.rational.proofs.Field.{ℚ_ring}
use Rattle.rational.proofs.Ring.{law, ◌⊕◌, ◌⊗◌, ◌⊖◌, ◌≐◌}

-- v at `from`, growing at rate m
abbrev pub grown : ℚ → ℚ → ℚ → ℚ → ℚ
grown v m from t = v +ℚ m *ℚ (t -ℚ from)

-- where it would be at 0
abbrev at_zero : ℚ → ℚ → ℚ → ℚ
at_zero v m from = v -ℚ m *ℚ from

grown-along : (v m from t : ℚ) → grown v m from t ≡ along (at_zero v m from) m t
grown-along v m from t = law ℚ_ring (v ∷ m ∷ from ∷ t ∷ []) (λ v m from t. (v ⊕ m ⊗ (t ⊖ from)) ≐ ((v ⊖ m ⊗ from) ⊕ m ⊗ t)) refl

grown-from : (v m from : ℚ) → along (at_zero v m from) m from ≡ v
grown-from v m from = law ℚ_ring (v ∷ m ∷ from ∷ []) (λ v m from. ((v ⊖ m ⊗ from) ⊕ m ⊗ from) ≐ v) refl

nonneg_along : (v m from t : ℚ) → zeroℚ ≤ℚ grown v m from t → zeroℚ ≤ℚ along (at_zero v m from) m t
nonneg_along v m from t = subst (λ q. zeroℚ ≤ℚ q) (grown-along v m from t)

nonneg_grown : (v m from t : ℚ) → zeroℚ ≤ℚ along (at_zero v m from) m t → zeroℚ ≤ℚ grown v m from t
nonneg_grown v m from t = subst (λ q. zeroℚ ≤ℚ q) (sym (grown-along v m from t))

pub between : (v m from to t : ℚ) → zeroℚ ≤ℚ v → zeroℚ ≤ℚ grown v m from to → from ≤ℚ t → t ≤ℚ to → zeroℚ ≤ℚ grown v m from t
between v m from to t p q h k = nonneg_grown v m from t (nonneg_between (at_zero v m from) m from to t (subst (λ x. zeroℚ ≤ℚ x) (sym (grown-from v m from)) p) (nonneg_along v m from to q) h k)

abbrev pub HoldsInside : ℚ → ℚ → ℚ → ℚ → Type 0
HoldsInside v m from to = (t : ℚ) → from <ℚ t → t <ℚ to → zeroℚ ≤ℚ grown v m from t

inside-along : (v m from to : ℚ) → HoldsInside v m from to → NonnegBetween (at_zero v m from) m from to
inside-along v m from to f t h k = nonneg_along v m from t (f t h k)

-- a function that is at least 0 strictly between two times is so at the earlier, and at the later
pub at_from : (v m from to : ℚ) → from <ℚ to → HoldsInside v m from to → zeroℚ ≤ℚ v
at_from v m from to h f = subst (λ x. zeroℚ ≤ℚ x) (grown-from v m from) (ends_from_between (at_zero v m from) m from to h (inside-along v m from to f)).0

pub at_to : (v m from to : ℚ) → from <ℚ to → HoldsInside v m from to → zeroℚ ≤ℚ grown v m from to
at_to v m from to h f = nonneg_grown v m from to (ends_from_between (at_zero v m from) m from to h (inside-along v m from to f)).1
