-- Believed: conditions without strict or negated comparisons, and bounds of durations.
use Rattle.std.specs.Prelude.{ℕ, List, [], ◌∷◌, ◌++◌, Option, Some, None, if◌then◌else◌}
use Rattle.std.specs.List.{flat_map}
use Rattle.pddl_names.specs.Equalities.{is_equality}
use Rattle.pddl_terms.specs.declared.faults.Kind.TheVariants as kind
use Rattle.pddl_terms.specs.declared.trees.Comparison.{Comparison}
use Rattle.pddl_terms.specs.declared.trees.Comparison.TheVariants as comparison
use Rattle.pddl_terms.specs.declared.trees.CondTree.{CondTree, fold-CondTree}
use Rattle.pddl_terms.specs.declared.trees.CondTree.TheOpen.{CondTree-F}
use Rattle.pddl_terms.specs.declared.trees.DurTree.{DurTree, fold-DurTree}
use Rattle.pddl_terms.specs.declared.trees.DurTree.TheOpen.{DurTree-F}
use Rattle.pddl_terms.specs.declared.trees.Side as sides
use Rattle.pddl_terms.specs.declared.trees.TimedCond.{TimedCond, fold-TimedCond}
use Rattle.pddl_terms.specs.declared.trees.TimedCond.TheOpen.{TimedCond-F}
use Rattle.pddl_forms.specs.declared.functions.Functions.{Functions}
use Rattle.pddl_names.specs.declared.offences.Offence.{Offence}
use Rattle.pddl_forms.specs.Offences.{offence}
use Rattle.pddl_forms.specs.TypedLists.{typed_offences}
use Rattle.pddl_forms.specs.Expressions.{expression_offences, side_offences}

-- a comparison below the `not` that stands at the place, if one does
abbrev pub negated : Option ℕ → List Offence
negated None = []
negated (Some at) = offence kind.Strict at ∷ []

-- a comparison by this mark
abbrev pub strict : ℕ → Comparison → List Offence
strict at comparison.Equal = []
strict at comparison.AtMost = []
strict at comparison.AtLeast = []
strict at comparison.Below = offence kind.Strict at ∷ []
strict at comparison.Above = offence kind.Strict at ∷ []

abbrev pub sides_offences : Functions → sides.Side → sides.Side → List Offence
sides_offences fs left right = side_offences fs left ++ side_offences fs right

-- An `=` below the `not` that stands at the place, if one does: an equality of terms may be negated.
abbrev pub equal_offences : Functions → Option ℕ → sides.Side → sides.Side → List Offence
equal_offences fs above left right = if is_equality fs.declared left right then [] else negated above ++ sides_offences fs left right

-- A condition right below the `not` that stands at the place, if one does. What a second `not` holds is a comparison.
abbrev pub condition_layer : Functions → CondTree-F (Option ℕ → List Offence) → Option ℕ → List Offence
condition_layer fs (CondTree-F.Empty at) above = []
condition_layer fs (CondTree-F.And at parts) above = flat_map (λ part. part None) parts
condition_layer fs (CondTree-F.Forall at groups body) above = typed_offences groups ++ body None
condition_layer fs (CondTree-F.Atom a) above = []
condition_layer fs (CondTree-F.Not at part) above = negated above ++ part (Some at)
condition_layer fs (CondTree-F.Equal at left right) above = equal_offences fs above left right
condition_layer fs (CondTree-F.Compare at c left right) above = negated above ++ strict at c ++ expression_offences fs left ++ expression_offences fs right
condition_layer fs (CondTree-F.LeftOut at) above = offence kind.LeftOut at ∷ []

unfoldable pub condition_below : Functions → Option ℕ → CondTree → List Offence
condition_below fs above c = fold-CondTree (Option ℕ → List Offence) (condition_layer fs) c above

-- a condition
abbrev pub condition_offences : Functions → CondTree → List Offence
condition_offences fs c = condition_below fs None c

-- a condition of a durative action
abbrev pub timed_condition_layer : Functions → TimedCond-F (List Offence) → List Offence
timed_condition_layer fs (TimedCond-F.Empty at) = []
timed_condition_layer fs (TimedCond-F.And at parts) = flat_map (λ part. part) parts
timed_condition_layer fs (TimedCond-F.AtStart at c) = condition_offences fs c
timed_condition_layer fs (TimedCond-F.OverAll at c) = condition_offences fs c
timed_condition_layer fs (TimedCond-F.AtEnd at c) = condition_offences fs c
timed_condition_layer fs (TimedCond-F.LeftOut at) = offence kind.LeftOut at ∷ []

unfoldable pub timed_condition_offences : Functions → TimedCond → List Offence
timed_condition_offences fs c = fold-TimedCond (List Offence) (timed_condition_layer fs) c

-- the bounds of a duration
abbrev pub duration_layer : Functions → DurTree-F (List Offence) → List Offence
duration_layer fs (DurTree-F.And at parts) = flat_map (λ part. part) parts
duration_layer fs (DurTree-F.AtStart at part) = part
duration_layer fs (DurTree-F.AtEnd at part) = part
duration_layer fs (DurTree-F.Bound at c e) = expression_offences fs e
duration_layer fs (DurTree-F.LeftOut at) = offence kind.LeftOut at ∷ []

unfoldable pub duration_offences : Functions → DurTree → List Offence
duration_offences fs t = fold-DurTree (List Offence) (duration_layer fs) t
