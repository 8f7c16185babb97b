-- Believed: time costs that rise: their numbers, or their pieces.
use Rattle.std.specs.Prelude.{ℕ, Bool, not, ◌&&◌, List, [], ◌∷◌, ◌++◌}
use Rattle.std.specs.Ordering.{is_lt}
use Rattle.rational.specs.Rational.{ℚ, zeroℚ, cmp_ℚ}
use Rattle.pddl_terms.specs.declared.faults.Kind.TheVariants as kind
use Rattle.pddl_terms.specs.declared.files.CostCurve.{CostCurve}
use Rattle.pddl_terms.specs.declared.files.CostCurve.TheVariants as curve
use Rattle.pddl_terms.specs.declared.files.PieceDef.{PieceDef}
use Rattle.pddl_terms.specs.declared.files.PieceDef.TheVariants as piece
use Rattle.pddl_terms.specs.declared.files.TimeCost.{TimeCost}
use Rattle.pddl_terms.specs.declared.files.TimeCost.TheVariants as cost
use Rattle.pddl_forms.specs.declared.functions.Functions.{Functions}
use Rattle.pddl_names.specs.declared.offences.Offence.{Offence}
use Rattle.pddl_forms.specs.Offences.{offence, unless}
use Rattle.pddl_forms.specs.Formulas.{formula_offences}

abbrev pub is_below : ℚ → ℚ → Bool
is_below q r = is_lt (cmp_ℚ q r)

abbrev pub is_at_most : ℚ → ℚ → Bool
is_at_most q r = not (is_below r q)

-- A cost in three numbers: `0 <= soft < hard` and `0 <= top`.
abbrev pub is_rise : ℚ → ℚ → ℚ → Bool
is_rise soft hard top = is_at_most zeroℚ soft && is_below soft hard && is_at_most zeroℚ top

-- A piece that goes on from this moment and this cost: it ends later, and its costs don't fall.
abbrev pub goes_on : ℚ → ℚ → ℚ → ℚ → ℚ → Bool
goes_on moment cost until from to = is_below moment until && is_at_most cost from && is_at_most from to

-- The pieces of a time cost, from this moment and this cost on. The first goes on from 0 at moment 0, and so `0 < until`
-- and `0 <= from` hold of it, as `from <= to` and the order of the untils do of all.
unfoldable pub pieces_from : ℚ → ℚ → List PieceDef → List Offence
pieces_from moment cost [] = []
pieces_from moment cost (piece.Piece at until from to ∷ ps) = unless (goes_on moment cost until from to) kind.Nonlinear at ++ pieces_from until to ps
pieces_from moment cost (piece.LeftOut at ∷ ps) = offence kind.LeftOut at ∷ pieces_from moment cost ps

-- how the time cost that stands at the place rises
abbrev pub curve_offences : ℕ → CostCurve → List Offence
curve_offences at (curve.Three soft hard top) = unless (is_rise soft hard top) kind.Nonlinear at
curve_offences at (curve.Pieces ps) = pieces_from zeroℚ zeroℚ ps

abbrev pub time_cost_offences : Functions → TimeCost → List Offence
time_cost_offences fs (cost.Named at n t c) = formula_offences fs t ++ curve_offences at c
time_cost_offences fs (cost.LeftOut at) = offence kind.LeftOut at ∷ []
