-- Believed: linear expressions. Of the factors of a product one at most is no constant, and a divisor is a constant.
-- Whether a part is a constant goes by the text alone: it mentions no fluent that an effect changes, no `?duration`, and
-- no term that only a metric has.
use Rattle.std.specs.Prelude.{ℕ, Bool, true, false, not, ◌&&◌, nat_le, List, [], ◌∷◌, ◌++◌, length}
use Rattle.std.specs.List.{flat_map, filter, list_all}
use Rattle.pddl_terms.specs.declared.faults.Kind.TheVariants as kind
use Rattle.pddl_terms.specs.declared.trees.ExprTree.{ExprTree, fold-ExprTree}
use Rattle.pddl_terms.specs.declared.trees.ExprTree.TheOpen.{ExprTree-F}
use Rattle.pddl_terms.specs.declared.trees.Side as sides
use Rattle.pddl_terms.specs.declared.trees.Side.TheVariants as side
use Rattle.pddl_forms.specs.declared.functions.Functions.{Functions}
use Rattle.pddl_names.specs.declared.offences.Offence.{Offence}
use Rattle.pddl_forms.specs.Offences.{offence, unless}
use Rattle.pddl_forms.specs.Functions.{is_static}

-- whether an expression is a constant, and what is wrong in it
pub record Judged : Type 0 where
  pub is_constant : Bool
  pub offences : List Offence

abbrev pub judged : Bool → List Offence → Judged
judged constant os = record { is_constant = constant; offences = os }

abbrev pub are_constant : List Judged → Bool
are_constant parts = list_all (λ part. part.is_constant) parts

abbrev pub all_offences : List Judged → List Offence
all_offences parts = flat_map (λ part. part.offences) parts

-- how many of the factors are no constants
abbrev pub changing_count : List Judged → ℕ
changing_count parts = length (filter (λ part. not part.is_constant) parts)

abbrev pub expression_layer : Functions → ExprTree-F Judged → Judged
expression_layer fs (ExprTree-F.Number at value) = judged true []
expression_layer fs (ExprTree-F.Fluent a) = judged (is_static fs a.name.bytes) []
expression_layer fs (ExprTree-F.Duration at) = judged false []
expression_layer fs (ExprTree-F.Sum at parts) = judged (are_constant parts) (all_offences parts)
expression_layer fs (ExprTree-F.Product at parts) = judged (are_constant parts) (all_offences parts ++ unless (nat_le (changing_count parts) 1) kind.Nonlinear at)
expression_layer fs (ExprTree-F.Negative at part) = part
expression_layer fs (ExprTree-F.Difference at left right) = judged (left.is_constant && right.is_constant) (left.offences ++ right.offences)
expression_layer fs (ExprTree-F.Quotient at left right) = judged (left.is_constant && right.is_constant) (left.offences ++ right.offences ++ unless right.is_constant kind.Nonlinear at)
expression_layer fs (ExprTree-F.LeftOut at) = judged true (offence kind.LeftOut at ∷ [])
expression_layer fs (ExprTree-F.TotalTime at) = judged false []
expression_layer fs (ExprTree-F.Violated at n) = judged false []
expression_layer fs (ExprTree-F.TimeCost at n) = judged false []

unfoldable pub judgement : Functions → ExprTree → Judged
judgement fs e = fold-ExprTree Judged (expression_layer fs) e

abbrev pub is_constant : Functions → ExprTree → Bool
is_constant fs e = (judgement fs e).is_constant

abbrev pub is_changing : Functions → ExprTree → Bool
is_changing fs e = not (is_constant fs e)

abbrev pub expression_offences : Functions → ExprTree → List Offence
expression_offences fs e = (judgement fs e).offences

-- a side of an `=`
abbrev pub side_offences : Functions → sides.Side → List Offence
side_offences fs (side.Variable n) = []
side_offences fs (side.Bare n) = []
side_offences fs (side.Expression e) = expression_offences fs e
