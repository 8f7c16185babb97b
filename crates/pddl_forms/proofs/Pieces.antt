-- The pieces of a time cost, one by one.
use Rattle.std.proofs.Common.{◌≡◌, refl, sym, ap, ℕ, List, [], ◌∷◌, ◌++◌, Option}
use Rattle.rational.specs.Rational.{ℚ}
use Rattle.pddl_terms.specs.declared.faults.Kind.TheVariants as kind
use Rattle.pddl_terms.specs.declared.files.PieceDef.{PieceDef}
use Rattle.pddl_terms.specs.declared.files.PieceDef.TheVariants as piece
use Rattle.pddl_names.specs.declared.offences.Offence.{Offence}
use Rattle.pddl_forms.specs.Offences.{offence, unless, lesser, least_with}
use Rattle.pddl_forms.specs.TimeCosts.{goes_on, pieces_from}
use Rattle.pddl_forms.proofs.Least.{least_of}

pub pieces_from-none : (moment cost : ℚ) → pieces_from moment cost [] ≡ []
unfolding pieces_from
pieces_from-none moment cost = refl

pub pieces_from-piece : (moment cost : ℚ) (at : ℕ) (until from to : ℚ) (ps : List PieceDef)
    → pieces_from moment cost (piece.Piece at until from to ∷ ps) ≡ unless (goes_on moment cost until from to) kind.Nonlinear at ++ pieces_from until to ps
unfolding pieces_from
pieces_from-piece moment cost at until from to ps = refl

pub pieces_from-left_out : (moment cost : ℚ) (at : ℕ) (ps : List PieceDef)
    → pieces_from moment cost (piece.LeftOut at ∷ ps) ≡ (offence kind.LeftOut at ∷ []) ++ pieces_from moment cost ps
unfolding pieces_from
pieces_from-left_out moment cost at ps = refl

pub ruleset pieces_of = (pieces_from-none, pieces_from-piece, pieces_from-left_out, least_of)

-- a piece that is left out is passed over
pub left_out-step : (found : Option Offence) (moment cost : ℚ) (at : ℕ) (p : PieceDef) (ps : List PieceDef) → p ≡ piece.LeftOut at
    → least_with (lesser found (offence kind.LeftOut at)) (pieces_from moment cost ps) ≡ least_with found (pieces_from moment cost (p ∷ ps))
unfolding least_with pieces_from
left_out-step found moment cost at p ps e = sym (ap (λ x. least_with found (pieces_from moment cost (x ∷ ps))) e)
