-- Believed: the trees of time costs.
use Rattle.std.specs.Prelude.{ℕ, Bool, List, [], ◌∷◌, Option, Some, None, if◌then◌else◌}
use Rattle.pddl_terms.specs.declared.files.CostCurve.{CostCurve}
use Rattle.pddl_terms.specs.declared.files.CostCurve.TheVariants as curve
use Rattle.pddl_terms.specs.declared.files.PieceDef.{PieceDef}
use Rattle.pddl_terms.specs.declared.files.PieceDef.TheVariants as piece
use Rattle.pddl_terms.specs.declared.files.TimeCost.{TimeCost}
use Rattle.pddl_terms.specs.declared.files.TimeCost.TheVariants as cost
use Rattle.pddl_terms.specs.Words.{is_left_out}
use Rattle.pddl_terms.specs.Content.{Lexeme, Content, End, Word, Inner, behind}
use Rattle.pddl_terms.specs.Numbers.{number_at}
use Rattle.pddl_terms.specs.Shape.{word_ahead}
use Rattle.pddl_terms.specs.Typed.{name_of}
use Rattle.pddl_terms.specs.Formulas.{fact_tree}

-- a piece whose list opens at a place and holds this
abbrev pub piece_list : ℕ → Content → PieceDef
piece_list at x =
    if is_left_out (word_ahead x) then piece.LeftOut at
    else piece.Piece at (number_at x) (number_at (behind x)) (number_at (behind (behind x)))

-- piece*
unfoldable pub pieces : Content → List PieceDef
pieces (End close) = []
pieces (Word w more) = pieces more
pieces (Inner at inner more) = piece_list at inner ∷ pieces more

abbrev pub three : Content → CostCurve
three x = curve.Three (number_at x) (number_at (behind x)) (number_at (behind (behind x)))

-- three numbers, or pieces where a list stands next
unfoldable pub cost_curve : Content → CostCurve
cost_curve (End close) = three (End close)
cost_curve (Word w more) = three (Word w more)
cost_curve (Inner at inner more) = curve.Pieces (pieces (Inner at inner more))

-- a time cost that opens at a place with the word
abbrev pub cost_by : Bool → ℕ → Lexeme → Content → TimeCost
cost_by left_out at w x =
    if left_out then cost.LeftOut at else cost.Named at (name_of w) (fact_tree x) (cost_curve (behind x))

abbrev pub cost_list : ℕ → Content → TimeCost
cost_list at (Word w more) = cost_by (is_left_out w.bytes) at w more
cost_list at (End close) = cost.LeftOut at
cost_list at (Inner place inner more) = cost.LeftOut at

-- late*
unfoldable pub costs : Content → List TimeCost
costs (End close) = []
costs (Word w more) = costs more
costs (Inner at inner more) = cost_list at inner ∷ costs more

abbrev pub costs_of : Option Content → List TimeCost
costs_of None = []
costs_of (Some x) = costs x
