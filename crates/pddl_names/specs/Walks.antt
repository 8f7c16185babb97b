-- Believed: what is wrong in expressions, conditions, formulas, constraints, effects and goals.
use Rattle.std.specs.Prelude.{if◌then◌else◌, List, [], ◌++◌}
use Rattle.std.specs.List.{flat_map}
use Rattle.pddl_terms.specs.declared.trees.Side.{Side}
use Rattle.pddl_terms.specs.declared.trees.Side.TheVariants as side
use Rattle.pddl_terms.specs.declared.trees.Call.{Call}
use Rattle.pddl_terms.specs.declared.trees.Call.TheVariants as call
use Rattle.pddl_terms.specs.declared.trees.RateTree.{RateTree}
use Rattle.pddl_terms.specs.declared.trees.RateTree.TheVariants as rate
use Rattle.pddl_terms.specs.declared.trees.Trajectory.{Trajectory}
use Rattle.pddl_terms.specs.declared.trees.Trajectory.TheVariants as trail
use Rattle.pddl_terms.specs.declared.trees.ExprTree.{ExprTree, fold-ExprTree}
use Rattle.pddl_terms.specs.declared.trees.ExprTree.TheOpen.{ExprTree-F}
use Rattle.pddl_terms.specs.declared.trees.DurTree.{DurTree, fold-DurTree}
use Rattle.pddl_terms.specs.declared.trees.DurTree.TheOpen.{DurTree-F}
use Rattle.pddl_terms.specs.declared.trees.CondTree.{CondTree, fold-CondTree}
use Rattle.pddl_terms.specs.declared.trees.CondTree.TheOpen.{CondTree-F}
use Rattle.pddl_terms.specs.declared.trees.FactForm.{FactForm, fold-FactForm}
use Rattle.pddl_terms.specs.declared.trees.FactForm.TheOpen.{FactForm-F}
use Rattle.pddl_terms.specs.declared.trees.ConForm.{ConForm, fold-ConForm}
use Rattle.pddl_terms.specs.declared.trees.ConForm.TheOpen.{ConForm-F}
use Rattle.pddl_terms.specs.declared.trees.EffTree.{EffTree, fold-EffTree}
use Rattle.pddl_terms.specs.declared.trees.EffTree.TheOpen.{EffTree-F}
use Rattle.pddl_terms.specs.declared.trees.TimedEff.{TimedEff, fold-TimedEff}
use Rattle.pddl_terms.specs.declared.trees.TimedEff.TheOpen.{TimedEff-F}
use Rattle.pddl_terms.specs.declared.trees.TimedCond.{TimedCond, fold-TimedCond}
use Rattle.pddl_terms.specs.declared.trees.TimedCond.TheOpen.{TimedCond-F}
use Rattle.pddl_terms.specs.declared.trees.SoftTree.{SoftTree, fold-SoftTree}
use Rattle.pddl_terms.specs.declared.trees.SoftTree.TheOpen.{SoftTree-F}
use Rattle.pddl_terms.specs.declared.trees.GoalTree.{GoalTree, fold-GoalTree}
use Rattle.pddl_terms.specs.declared.trees.GoalTree.TheOpen.{GoalTree-F}
use Rattle.pddl_names.specs.declared.offences.Offence.{Offence}
use Rattle.pddl_names.specs.declared.offences.Phase.{Phase}
use Rattle.pddl_names.specs.declared.declarations.Tables.{Tables}
use Rattle.pddl_names.specs.Declarations.{Typed, among, value_of}
use Rattle.std.specs.Prelude.{is_some}
use Rattle.pddl_names.specs.Equalities.{is_equality}
use Rattle.pddl_names.specs.Calls.{undeclared, in_names, variables_offences, bind, call_offences, atom_offences, fluent_offences}

-- In each walk `p` is the phase, `w` what is declared, and `scope` the variables in scope. What is left out holds nothing.

-- all offences of the parts
abbrev pub together : List (List Offence) → List Offence
together parts = flat_map (λ part. part) parts

-- ---- expressions

abbrev pub expression_layer : Phase → Tables → List Typed → ExprTree-F (List Offence) → List Offence
expression_layer p w scope (ExprTree-F.Number at value) = []
expression_layer p w scope (ExprTree-F.Fluent a) = fluent_offences p w scope a
expression_layer p w scope (ExprTree-F.Duration at) = []
expression_layer p w scope (ExprTree-F.Sum at parts) = together parts
expression_layer p w scope (ExprTree-F.Product at parts) = together parts
expression_layer p w scope (ExprTree-F.Negative at part) = part
expression_layer p w scope (ExprTree-F.Difference at left right) = left ++ right
expression_layer p w scope (ExprTree-F.Quotient at left right) = left ++ right
expression_layer p w scope (ExprTree-F.LeftOut at) = []
expression_layer p w scope (ExprTree-F.TotalTime at) = []
expression_layer p w scope (ExprTree-F.Violated at n) = in_names p (undeclared (among w.preferences n.bytes) n)
expression_layer p w scope (ExprTree-F.TimeCost at n) = in_names p (undeclared (among w.time_costs n.bytes) n)

unfoldable pub expression_offences : Phase → Tables → List Typed → ExprTree → List Offence
expression_offences p w scope tree = fold-ExprTree (List Offence) (expression_layer p w scope) tree

abbrev pub duration_layer : Phase → Tables → List Typed → DurTree-F (List Offence) → List Offence
duration_layer p w scope (DurTree-F.And at parts) = together parts
duration_layer p w scope (DurTree-F.AtStart at part) = part
duration_layer p w scope (DurTree-F.AtEnd at part) = part
duration_layer p w scope (DurTree-F.Bound at mark e) = expression_offences p w scope e
duration_layer p w scope (DurTree-F.LeftOut at) = []

unfoldable pub duration_offences : Phase → Tables → List Typed → DurTree → List Offence
duration_offences p w scope tree = fold-DurTree (List Offence) (duration_layer p w scope) tree

-- ---- the sides of an `=`

-- a side of an equality of terms: a variable or an object, of any type
abbrev pub term_side_offences : Phase → Tables → List Typed → Side → List Offence
term_side_offences p w scope (side.Variable n) = in_names p (undeclared (is_some (value_of scope n.bytes)) n)
term_side_offences p w scope (side.Bare n) = in_names p (undeclared (is_some (value_of w.objects n.bytes)) n)
term_side_offences p w scope (side.Expression e) = []

-- a side of a comparison: a bare name is a function without terms
abbrev pub number_side_offences : Phase → Tables → List Typed → Side → List Offence
number_side_offences p w scope (side.Variable n) = []
number_side_offences p w scope (side.Bare n) = call_offences p w w.functions scope n.at n []
number_side_offences p w scope (side.Expression e) = expression_offences p w scope e

abbrev pub equal_offences : Phase → Tables → List Typed → Side → Side → List Offence
equal_offences p w scope left right =
    if is_equality w.function_names left right then term_side_offences p w scope left ++ term_side_offences p w scope right
    else number_side_offences p w scope left ++ number_side_offences p w scope right

-- ---- conditions and formulas: a quantifier binds its variables in its body

abbrev pub condition_layer : Phase → Tables → CondTree-F (List Typed → List Offence) → List Typed → List Offence
condition_layer p w (CondTree-F.Empty at) scope = []
condition_layer p w (CondTree-F.And at parts) scope = flat_map (λ part. part scope) parts
condition_layer p w (CondTree-F.Forall at groups body) scope = variables_offences p w groups ++ body (bind groups scope)
condition_layer p w (CondTree-F.Atom a) scope = atom_offences p w scope a
condition_layer p w (CondTree-F.Not at part) scope = part scope
condition_layer p w (CondTree-F.Equal at left right) scope = equal_offences p w scope left right
condition_layer p w (CondTree-F.Compare at mark left right) scope = expression_offences p w scope left ++ expression_offences p w scope right
condition_layer p w (CondTree-F.LeftOut at) scope = []

unfoldable pub condition_offences : Phase → Tables → List Typed → CondTree → List Offence
condition_offences p w scope tree = fold-CondTree (List Typed → List Offence) (condition_layer p w) tree scope

abbrev pub formula_layer : Phase → Tables → FactForm-F (List Typed → List Offence) → List Typed → List Offence
formula_layer p w (FactForm-F.Empty at) scope = []
formula_layer p w (FactForm-F.Atom a) scope = atom_offences p w scope a
formula_layer p w (FactForm-F.Equal at left right) scope = equal_offences p w scope left right
formula_layer p w (FactForm-F.And at parts) scope = flat_map (λ part. part scope) parts
formula_layer p w (FactForm-F.Or at parts) scope = flat_map (λ part. part scope) parts
formula_layer p w (FactForm-F.Not at part) scope = part scope
formula_layer p w (FactForm-F.Imply at left right) scope = left scope ++ right scope
formula_layer p w (FactForm-F.Exists at groups body) scope = variables_offences p w groups ++ body (bind groups scope)
formula_layer p w (FactForm-F.Forall at groups body) scope = variables_offences p w groups ++ body (bind groups scope)
formula_layer p w (FactForm-F.LeftOut at) scope = []

unfoldable pub formula_offences : Phase → Tables → List Typed → FactForm → List Offence
formula_offences p w scope tree = fold-FactForm (List Typed → List Offence) (formula_layer p w) tree scope

-- ---- constraints

abbrev pub trajectory_offences : Phase → Tables → List Typed → Trajectory → List Offence
trajectory_offences p w scope (trail.Always at f) = formula_offences p w scope f
trajectory_offences p w scope (trail.Sometime at f) = formula_offences p w scope f
trajectory_offences p w scope (trail.Within at moment f) = formula_offences p w scope f
trajectory_offences p w scope (trail.AtMostOnce at f) = formula_offences p w scope f
trajectory_offences p w scope (trail.SometimeAfter at f g) = formula_offences p w scope f ++ formula_offences p w scope g
trajectory_offences p w scope (trail.SometimeBefore at f g) = formula_offences p w scope f ++ formula_offences p w scope g
trajectory_offences p w scope (trail.AtEnd at f) = formula_offences p w scope f
trajectory_offences p w scope (trail.LeftOut at) = []

abbrev pub constraint_layer : Phase → Tables → ConForm-F (List Typed → List Offence) → List Typed → List Offence
constraint_layer p w (ConForm-F.And at parts) scope = flat_map (λ part. part scope) parts
constraint_layer p w (ConForm-F.Forall at groups body) scope = variables_offences p w groups ++ body (bind groups scope)
constraint_layer p w (ConForm-F.Hard t) scope = trajectory_offences p w scope t
constraint_layer p w (ConForm-F.Preference at n t) scope = trajectory_offences p w scope t

unfoldable pub constraint_offences : Phase → Tables → List Typed → ConForm → List Offence
constraint_offences p w scope tree = fold-ConForm (List Typed → List Offence) (constraint_layer p w) tree scope

-- ---- effects

-- a fact that an effect deletes
abbrev pub called_atom_offences : Phase → Tables → List Typed → Call → List Offence
called_atom_offences p w scope (call.Named a) = atom_offences p w scope a
called_atom_offences p w scope (call.LeftOut at) = []

-- a fluent that an effect changes
abbrev pub called_fluent_offences : Phase → Tables → List Typed → Call → List Offence
called_fluent_offences p w scope (call.Named a) = fluent_offences p w scope a
called_fluent_offences p w scope (call.LeftOut at) = []

abbrev pub effect_layer : Phase → Tables → List Typed → EffTree-F (List Offence) → List Offence
effect_layer p w scope (EffTree-F.Empty at) = []
effect_layer p w scope (EffTree-F.And at parts) = together parts
effect_layer p w scope (EffTree-F.Add a) = atom_offences p w scope a
effect_layer p w scope (EffTree-F.Delete at a) = called_atom_offences p w scope a
effect_layer p w scope (EffTree-F.Change at kind fluent e) = called_fluent_offences p w scope fluent ++ expression_offences p w scope e
effect_layer p w scope (EffTree-F.LeftOut at) = []

unfoldable pub effect_offences : Phase → Tables → List Typed → EffTree → List Offence
effect_offences p w scope tree = fold-EffTree (List Offence) (effect_layer p w scope) tree

abbrev pub rate_offences : Phase → Tables → List Typed → RateTree → List Offence
rate_offences p w scope (rate.One at) = []
rate_offences p w scope (rate.Times at e) = expression_offences p w scope e
rate_offences p w scope (rate.LeftOut at) = []

abbrev pub timed_effect_layer : Phase → Tables → List Typed → TimedEff-F (List Offence) → List Offence
timed_effect_layer p w scope (TimedEff-F.Empty at) = []
timed_effect_layer p w scope (TimedEff-F.And at parts) = together parts
timed_effect_layer p w scope (TimedEff-F.AtStart at effect) = effect_offences p w scope effect
timed_effect_layer p w scope (TimedEff-F.AtEnd at effect) = effect_offences p w scope effect
timed_effect_layer p w scope (TimedEff-F.Rate at trend fluent r) = called_fluent_offences p w scope fluent ++ rate_offences p w scope r
timed_effect_layer p w scope (TimedEff-F.LeftOut at) = []

unfoldable pub timed_effect_offences : Phase → Tables → List Typed → TimedEff → List Offence
timed_effect_offences p w scope tree = fold-TimedEff (List Offence) (timed_effect_layer p w scope) tree

abbrev pub timed_condition_layer : Phase → Tables → List Typed → TimedCond-F (List Offence) → List Offence
timed_condition_layer p w scope (TimedCond-F.Empty at) = []
timed_condition_layer p w scope (TimedCond-F.And at parts) = together parts
timed_condition_layer p w scope (TimedCond-F.AtStart at c) = condition_offences p w scope c
timed_condition_layer p w scope (TimedCond-F.OverAll at c) = condition_offences p w scope c
timed_condition_layer p w scope (TimedCond-F.AtEnd at c) = condition_offences p w scope c
timed_condition_layer p w scope (TimedCond-F.LeftOut at) = []

unfoldable pub timed_condition_offences : Phase → Tables → List Typed → TimedCond → List Offence
timed_condition_offences p w scope tree = fold-TimedCond (List Offence) (timed_condition_layer p w scope) tree

-- ---- goals

abbrev pub soft_layer : Phase → Tables → List Typed → SoftTree-F (List Offence) → List Offence
soft_layer p w scope (SoftTree-F.Formula f) = formula_offences p w scope f
soft_layer p w scope (SoftTree-F.Equal at left right) = equal_offences p w scope left right
soft_layer p w scope (SoftTree-F.Comparison c) = condition_offences p w scope c
soft_layer p w scope (SoftTree-F.And at parts) = together parts

unfoldable pub soft_offences : Phase → Tables → List Typed → SoftTree → List Offence
soft_offences p w scope tree = fold-SoftTree (List Offence) (soft_layer p w scope) tree

abbrev pub goal_layer : Phase → Tables → GoalTree-F (List Typed → List Offence) → List Typed → List Offence
goal_layer p w (GoalTree-F.Condition c) scope = condition_offences p w scope c
goal_layer p w (GoalTree-F.And at parts) scope = flat_map (λ part. part scope) parts
goal_layer p w (GoalTree-F.Forall at groups body) scope = variables_offences p w groups ++ body (bind groups scope)
goal_layer p w (GoalTree-F.Preference at n soft) scope = soft_offences p w scope soft

unfoldable pub goal_offences : Phase → Tables → List Typed → GoalTree → List Offence
goal_offences p w scope tree = fold-GoalTree (List Typed → List Offence) (goal_layer p w) tree scope
