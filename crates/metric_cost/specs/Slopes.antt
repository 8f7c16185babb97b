-- Private: the value of a piece, reckoned by its slope.
use Rattle.std.specs.Prelude.{List, [], ◌∷◌}
use Rattle.rational.specs.Rational.{ℚ, ◌*ℚ◌, ◌-ℚ◌, neg_ℚ, inverse}
use Rattle.exact_lin.specs.Reckonings.{Reckoning, Sum, Product}
use Rattle.task_types.specs.declared.costs.Piece.{Piece}

-- how steeply a piece with a lower end rises
abbrev pub slope : ℚ → Piece → ℚ
slope lower p = (p.to -ℚ p.from) *ℚ inverse (p.until -ℚ lower)

abbrev pub slope_reckoned : ℚ → Piece → List Reckoning
slope_reckoned lower p = Sum p.until (neg_ℚ lower) ∷ Sum p.to (neg_ℚ p.from) ∷ Product (p.to -ℚ p.from) (inverse (p.until -ℚ lower)) ∷ []

-- where a line of a slope that begins at a number is at a moment
abbrev pub risen_reckoned : (from gradient lower m : ℚ) → List Reckoning
risen_reckoned from gradient lower m = Sum m (neg_ℚ lower) ∷ Product gradient (m -ℚ lower) ∷ Sum from (gradient *ℚ (m -ℚ lower)) ∷ []
