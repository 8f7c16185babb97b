-- Believed: goals and their preferences.
use Rattle.std.specs.Prelude.{List, [], ◌++◌, if◌then◌else◌}
use Rattle.std.specs.List.{flat_map}
use Rattle.pddl_names.specs.Equalities.{is_equality}
use Rattle.pddl_terms.specs.declared.trees.GoalTree.{GoalTree, fold-GoalTree}
use Rattle.pddl_terms.specs.declared.trees.GoalTree.TheOpen.{GoalTree-F}
use Rattle.pddl_terms.specs.declared.trees.SoftTree.{SoftTree, fold-SoftTree}
use Rattle.pddl_terms.specs.declared.trees.SoftTree.TheOpen.{SoftTree-F}
use Rattle.pddl_forms.specs.declared.formulas.Around.TheVariants as around
use Rattle.pddl_forms.specs.declared.functions.Functions.{Functions}
use Rattle.pddl_names.specs.declared.offences.Offence.{Offence}
use Rattle.pddl_forms.specs.TypedLists.{typed_offences}
use Rattle.pddl_forms.specs.Conditions.{sides_offences, condition_offences}
use Rattle.pddl_forms.specs.Formulas.{formula_in}

-- what a preference asks: formulas over facts, and comparisons
abbrev pub soft_layer : Functions → SoftTree-F (List Offence) → List Offence
soft_layer fs (SoftTree-F.Formula t) = formula_in fs around.Preference t
soft_layer fs (SoftTree-F.Equal at left right) = if is_equality fs.declared left right then [] else sides_offences fs left right
soft_layer fs (SoftTree-F.Comparison c) = condition_offences fs c
soft_layer fs (SoftTree-F.And at parts) = flat_map (λ part. part) parts

unfoldable pub soft_offences : Functions → SoftTree → List Offence
soft_offences fs t = fold-SoftTree (List Offence) (soft_layer fs) t

-- a goal
abbrev pub goal_layer : Functions → GoalTree-F (List Offence) → List Offence
goal_layer fs (GoalTree-F.Condition c) = condition_offences fs c
goal_layer fs (GoalTree-F.And at parts) = flat_map (λ part. part) parts
goal_layer fs (GoalTree-F.Forall at groups body) = typed_offences groups ++ body
goal_layer fs (GoalTree-F.Preference at n soft) = soft_offences fs soft

unfoldable pub goal_offences : Functions → GoalTree → List Offence
goal_offences fs g = fold-GoalTree (List Offence) (goal_layer fs) g
