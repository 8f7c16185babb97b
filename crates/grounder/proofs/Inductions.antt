-- What holds of each tree where it holds of its parts, holds of every tree. Made by a script from the enums.
use Rattle.std.proofs.Common.{sym, subst, ℕ, List, [], ◌∷◌, map, Option}
use Rattle.std.specs.List.{AllByRecursion as Each}
use Rattle.rational.specs.Rational.{ℚ}
use Rattle.pddl_terms.specs.declared.trees.ExprTree.{ExprTree, ind-ExprTree, map-ExprTree, roll-ExprTree}
use Rattle.pddl_terms.specs.declared.trees.ExprTree.TheOpen.{ExprTree-F}
use Rattle.pddl_terms.specs.declared.trees.ExprTree.TheVariants as expr
use Rattle.pddl_terms.specs.declared.trees.CondTree.{CondTree, ind-CondTree, map-CondTree, roll-CondTree}
use Rattle.pddl_terms.specs.declared.trees.CondTree.TheOpen.{CondTree-F}
use Rattle.pddl_terms.specs.declared.trees.CondTree.TheVariants as cond
use Rattle.pddl_terms.specs.declared.trees.TimedCond.{TimedCond, ind-TimedCond, map-TimedCond, roll-TimedCond}
use Rattle.pddl_terms.specs.declared.trees.TimedCond.TheOpen.{TimedCond-F}
use Rattle.pddl_terms.specs.declared.trees.TimedCond.TheVariants as timed
use Rattle.pddl_terms.specs.declared.trees.FactForm.{FactForm, ind-FactForm, map-FactForm, roll-FactForm}
use Rattle.pddl_terms.specs.declared.trees.FactForm.TheOpen.{FactForm-F}
use Rattle.pddl_terms.specs.declared.trees.FactForm.TheVariants as form
use Rattle.pddl_terms.specs.declared.trees.SoftTree.{SoftTree, ind-SoftTree, map-SoftTree, roll-SoftTree}
use Rattle.pddl_terms.specs.declared.trees.SoftTree.TheOpen.{SoftTree-F}
use Rattle.pddl_terms.specs.declared.trees.SoftTree.TheVariants as soft
use Rattle.pddl_terms.specs.declared.trees.GoalTree.{GoalTree, ind-GoalTree, map-GoalTree, roll-GoalTree}
use Rattle.pddl_terms.specs.declared.trees.GoalTree.TheOpen.{GoalTree-F}
use Rattle.pddl_terms.specs.declared.trees.GoalTree.TheVariants as goal
use Rattle.pddl_terms.specs.declared.trees.ConForm.{ConForm, ind-ConForm, map-ConForm, roll-ConForm}
use Rattle.pddl_terms.specs.declared.trees.ConForm.TheOpen.{ConForm-F}
use Rattle.pddl_terms.specs.declared.trees.ConForm.TheVariants as con
use Rattle.pddl_terms.specs.declared.trees.Name.{Name}
use Rattle.pddl_terms.specs.declared.trees.Atom.{Atom}
use Rattle.pddl_terms.specs.declared.trees.Group.{Group}
use Rattle.pddl_terms.specs.declared.trees.Side.{Side}
use Rattle.pddl_terms.specs.declared.trees.Comparison.{Comparison}
use Rattle.pddl_terms.specs.declared.trees.Trajectory.{Trajectory}
use Rattle.basics.proofs.Lists.{each_first}

-- expression
module _ (P : ExprTree → Type 0)
    (of_Number : (a : ℕ) (b : ℚ) → P (expr.Number a b))
    (of_Fluent : (a : Atom) → P (expr.Fluent a))
    (of_Duration : (a : ℕ) → P (expr.Duration a))
    (of_Sum : (a : ℕ) (b : List ExprTree) → Each P b → P (expr.Sum a b))
    (of_Product : (a : ℕ) (b : List ExprTree) → Each P b → P (expr.Product a b))
    (of_Negative : (a : ℕ) (b : ExprTree) → P b → P (expr.Negative a b))
    (of_Difference : (a : ℕ) (b : ExprTree) (c : ExprTree) → P b → P c → P (expr.Difference a b c))
    (of_Quotient : (a : ℕ) (b : ExprTree) (c : ExprTree) → P b → P c → P (expr.Quotient a b c))
    (of_LeftOut : (a : ℕ) → P (expr.LeftOut a))
    (of_TotalTime : (a : ℕ) → P (expr.TotalTime a))
    (of_Violated : (a : ℕ) (b : Name) → P (expr.Violated a b))
    (of_TimeCost : (a : ℕ) (b : Name) → P (expr.TimeCost a b)) where
  layer_expression : (y : ExprTree-F ((t : ExprTree) × P t)) → P (roll-ExprTree (map-ExprTree ((t : ExprTree) × P t) ExprTree (λ e. e.0) y))
  layer_expression (ExprTree-F.Number a b) = subst P (sym (expr.rolls-Number a b)) (of_Number a b)
  layer_expression (ExprTree-F.Fluent a) = subst P (sym (expr.rolls-Fluent a)) (of_Fluent a)
  layer_expression (ExprTree-F.Duration a) = subst P (sym (expr.rolls-Duration a)) (of_Duration a)
  layer_expression (ExprTree-F.Sum a b) = subst P (sym (expr.rolls-Sum a (map (λ e. e.0) b))) (of_Sum a (map (λ e. e.0) b) (each_first P b))
  layer_expression (ExprTree-F.Product a b) = subst P (sym (expr.rolls-Product a (map (λ e. e.0) b))) (of_Product a (map (λ e. e.0) b) (each_first P b))
  layer_expression (ExprTree-F.Negative a b) = subst P (sym (expr.rolls-Negative a b.0)) (of_Negative a b.0 b.1)
  layer_expression (ExprTree-F.Difference a b c) = subst P (sym (expr.rolls-Difference a b.0 c.0)) (of_Difference a b.0 c.0 b.1 c.1)
  layer_expression (ExprTree-F.Quotient a b c) = subst P (sym (expr.rolls-Quotient a b.0 c.0)) (of_Quotient a b.0 c.0 b.1 c.1)
  layer_expression (ExprTree-F.LeftOut a) = subst P (sym (expr.rolls-LeftOut a)) (of_LeftOut a)
  layer_expression (ExprTree-F.TotalTime a) = subst P (sym (expr.rolls-TotalTime a)) (of_TotalTime a)
  layer_expression (ExprTree-F.Violated a b) = subst P (sym (expr.rolls-Violated a b)) (of_Violated a b)
  layer_expression (ExprTree-F.TimeCost a b) = subst P (sym (expr.rolls-TimeCost a b)) (of_TimeCost a b)

  pub each_expression : (t : ExprTree) → P t
  each_expression = ind-ExprTree P (λ x y is. subst (λ z. P (roll-ExprTree z)) is (layer_expression y))

-- condition
module _ (P : CondTree → Type 0)
    (of_Empty : (a : ℕ) → P (cond.Empty a))
    (of_And : (a : ℕ) (b : List CondTree) → Each P b → P (cond.And a b))
    (of_Forall : (a : ℕ) (b : List Group) (c : CondTree) → P c → P (cond.Forall a b c))
    (of_Atom : (a : Atom) → P (cond.Atom a))
    (of_Not : (a : ℕ) (b : CondTree) → P b → P (cond.Not a b))
    (of_Equal : (a : ℕ) (b : Side) (c : Side) → P (cond.Equal a b c))
    (of_Compare : (a : ℕ) (b : Comparison) (c : ExprTree) (d : ExprTree) → P (cond.Compare a b c d))
    (of_LeftOut : (a : ℕ) → P (cond.LeftOut a)) where
  layer_condition : (y : CondTree-F ((t : CondTree) × P t)) → P (roll-CondTree (map-CondTree ((t : CondTree) × P t) CondTree (λ e. e.0) y))
  layer_condition (CondTree-F.Empty a) = subst P (sym (cond.rolls-Empty a)) (of_Empty a)
  layer_condition (CondTree-F.And a b) = subst P (sym (cond.rolls-And a (map (λ e. e.0) b))) (of_And a (map (λ e. e.0) b) (each_first P b))
  layer_condition (CondTree-F.Forall a b c) = subst P (sym (cond.rolls-Forall a b c.0)) (of_Forall a b c.0 c.1)
  layer_condition (CondTree-F.Atom a) = subst P (sym (cond.rolls-Atom a)) (of_Atom a)
  layer_condition (CondTree-F.Not a b) = subst P (sym (cond.rolls-Not a b.0)) (of_Not a b.0 b.1)
  layer_condition (CondTree-F.Equal a b c) = subst P (sym (cond.rolls-Equal a b c)) (of_Equal a b c)
  layer_condition (CondTree-F.Compare a b c d) = subst P (sym (cond.rolls-Compare a b c d)) (of_Compare a b c d)
  layer_condition (CondTree-F.LeftOut a) = subst P (sym (cond.rolls-LeftOut a)) (of_LeftOut a)

  pub each_condition : (t : CondTree) → P t
  each_condition = ind-CondTree P (λ x y is. subst (λ z. P (roll-CondTree z)) is (layer_condition y))

-- timed_condition
module _ (P : TimedCond → Type 0)
    (of_Empty : (a : ℕ) → P (timed.Empty a))
    (of_And : (a : ℕ) (b : List TimedCond) → Each P b → P (timed.And a b))
    (of_AtStart : (a : ℕ) (b : CondTree) → P (timed.AtStart a b))
    (of_OverAll : (a : ℕ) (b : CondTree) → P (timed.OverAll a b))
    (of_AtEnd : (a : ℕ) (b : CondTree) → P (timed.AtEnd a b))
    (of_LeftOut : (a : ℕ) → P (timed.LeftOut a)) where
  layer_timed_condition : (y : TimedCond-F ((t : TimedCond) × P t)) → P (roll-TimedCond (map-TimedCond ((t : TimedCond) × P t) TimedCond (λ e. e.0) y))
  layer_timed_condition (TimedCond-F.Empty a) = subst P (sym (timed.rolls-Empty a)) (of_Empty a)
  layer_timed_condition (TimedCond-F.And a b) = subst P (sym (timed.rolls-And a (map (λ e. e.0) b))) (of_And a (map (λ e. e.0) b) (each_first P b))
  layer_timed_condition (TimedCond-F.AtStart a b) = subst P (sym (timed.rolls-AtStart a b)) (of_AtStart a b)
  layer_timed_condition (TimedCond-F.OverAll a b) = subst P (sym (timed.rolls-OverAll a b)) (of_OverAll a b)
  layer_timed_condition (TimedCond-F.AtEnd a b) = subst P (sym (timed.rolls-AtEnd a b)) (of_AtEnd a b)
  layer_timed_condition (TimedCond-F.LeftOut a) = subst P (sym (timed.rolls-LeftOut a)) (of_LeftOut a)

  pub each_timed_condition : (t : TimedCond) → P t
  each_timed_condition = ind-TimedCond P (λ x y is. subst (λ z. P (roll-TimedCond z)) is (layer_timed_condition y))

-- formula
module _ (P : FactForm → Type 0)
    (of_Empty : (a : ℕ) → P (form.Empty a))
    (of_Atom : (a : Atom) → P (form.Atom a))
    (of_Equal : (a : ℕ) (b : Side) (c : Side) → P (form.Equal a b c))
    (of_And : (a : ℕ) (b : List FactForm) → Each P b → P (form.And a b))
    (of_Or : (a : ℕ) (b : List FactForm) → Each P b → P (form.Or a b))
    (of_Not : (a : ℕ) (b : FactForm) → P b → P (form.Not a b))
    (of_Imply : (a : ℕ) (b : FactForm) (c : FactForm) → P b → P c → P (form.Imply a b c))
    (of_Exists : (a : ℕ) (b : List Group) (c : FactForm) → P c → P (form.Exists a b c))
    (of_Forall : (a : ℕ) (b : List Group) (c : FactForm) → P c → P (form.Forall a b c))
    (of_LeftOut : (a : ℕ) → P (form.LeftOut a)) where
  layer_formula : (y : FactForm-F ((t : FactForm) × P t)) → P (roll-FactForm (map-FactForm ((t : FactForm) × P t) FactForm (λ e. e.0) y))
  layer_formula (FactForm-F.Empty a) = subst P (sym (form.rolls-Empty a)) (of_Empty a)
  layer_formula (FactForm-F.Atom a) = subst P (sym (form.rolls-Atom a)) (of_Atom a)
  layer_formula (FactForm-F.Equal a b c) = subst P (sym (form.rolls-Equal a b c)) (of_Equal a b c)
  layer_formula (FactForm-F.And a b) = subst P (sym (form.rolls-And a (map (λ e. e.0) b))) (of_And a (map (λ e. e.0) b) (each_first P b))
  layer_formula (FactForm-F.Or a b) = subst P (sym (form.rolls-Or a (map (λ e. e.0) b))) (of_Or a (map (λ e. e.0) b) (each_first P b))
  layer_formula (FactForm-F.Not a b) = subst P (sym (form.rolls-Not a b.0)) (of_Not a b.0 b.1)
  layer_formula (FactForm-F.Imply a b c) = subst P (sym (form.rolls-Imply a b.0 c.0)) (of_Imply a b.0 c.0 b.1 c.1)
  layer_formula (FactForm-F.Exists a b c) = subst P (sym (form.rolls-Exists a b c.0)) (of_Exists a b c.0 c.1)
  layer_formula (FactForm-F.Forall a b c) = subst P (sym (form.rolls-Forall a b c.0)) (of_Forall a b c.0 c.1)
  layer_formula (FactForm-F.LeftOut a) = subst P (sym (form.rolls-LeftOut a)) (of_LeftOut a)

  pub each_formula : (t : FactForm) → P t
  each_formula = ind-FactForm P (λ x y is. subst (λ z. P (roll-FactForm z)) is (layer_formula y))

-- preference
module _ (P : SoftTree → Type 0)
    (of_Formula : (a : FactForm) → P (soft.Formula a))
    (of_Equal : (a : ℕ) (b : Side) (c : Side) → P (soft.Equal a b c))
    (of_Comparison : (a : CondTree) → P (soft.Comparison a))
    (of_And : (a : ℕ) (b : List SoftTree) → Each P b → P (soft.And a b)) where
  layer_preference : (y : SoftTree-F ((t : SoftTree) × P t)) → P (roll-SoftTree (map-SoftTree ((t : SoftTree) × P t) SoftTree (λ e. e.0) y))
  layer_preference (SoftTree-F.Formula a) = subst P (sym (soft.rolls-Formula a)) (of_Formula a)
  layer_preference (SoftTree-F.Equal a b c) = subst P (sym (soft.rolls-Equal a b c)) (of_Equal a b c)
  layer_preference (SoftTree-F.Comparison a) = subst P (sym (soft.rolls-Comparison a)) (of_Comparison a)
  layer_preference (SoftTree-F.And a b) = subst P (sym (soft.rolls-And a (map (λ e. e.0) b))) (of_And a (map (λ e. e.0) b) (each_first P b))

  pub each_preference : (t : SoftTree) → P t
  each_preference = ind-SoftTree P (λ x y is. subst (λ z. P (roll-SoftTree z)) is (layer_preference y))

-- goal
module _ (P : GoalTree → Type 0)
    (of_Condition : (a : CondTree) → P (goal.Condition a))
    (of_And : (a : ℕ) (b : List GoalTree) → Each P b → P (goal.And a b))
    (of_Forall : (a : ℕ) (b : List Group) (c : GoalTree) → P c → P (goal.Forall a b c))
    (of_Preference : (a : ℕ) (b : Option Name) (c : SoftTree) → P (goal.Preference a b c)) where
  layer_goal : (y : GoalTree-F ((t : GoalTree) × P t)) → P (roll-GoalTree (map-GoalTree ((t : GoalTree) × P t) GoalTree (λ e. e.0) y))
  layer_goal (GoalTree-F.Condition a) = subst P (sym (goal.rolls-Condition a)) (of_Condition a)
  layer_goal (GoalTree-F.And a b) = subst P (sym (goal.rolls-And a (map (λ e. e.0) b))) (of_And a (map (λ e. e.0) b) (each_first P b))
  layer_goal (GoalTree-F.Forall a b c) = subst P (sym (goal.rolls-Forall a b c.0)) (of_Forall a b c.0 c.1)
  layer_goal (GoalTree-F.Preference a b c) = subst P (sym (goal.rolls-Preference a b c)) (of_Preference a b c)

  pub each_goal : (t : GoalTree) → P t
  each_goal = ind-GoalTree P (λ x y is. subst (λ z. P (roll-GoalTree z)) is (layer_goal y))

-- constraint
module _ (P : ConForm → Type 0)
    (of_And : (a : ℕ) (b : List ConForm) → Each P b → P (con.And a b))
    (of_Forall : (a : ℕ) (b : List Group) (c : ConForm) → P c → P (con.Forall a b c))
    (of_Hard : (a : Trajectory) → P (con.Hard a))
    (of_Preference : (a : ℕ) (b : Option Name) (c : Trajectory) → P (con.Preference a b c)) where
  layer_constraint : (y : ConForm-F ((t : ConForm) × P t)) → P (roll-ConForm (map-ConForm ((t : ConForm) × P t) ConForm (λ e. e.0) y))
  layer_constraint (ConForm-F.And a b) = subst P (sym (con.rolls-And a (map (λ e. e.0) b))) (of_And a (map (λ e. e.0) b) (each_first P b))
  layer_constraint (ConForm-F.Forall a b c) = subst P (sym (con.rolls-Forall a b c.0)) (of_Forall a b c.0 c.1)
  layer_constraint (ConForm-F.Hard a) = subst P (sym (con.rolls-Hard a)) (of_Hard a)
  layer_constraint (ConForm-F.Preference a b c) = subst P (sym (con.rolls-Preference a b c)) (of_Preference a b c)

  pub each_constraint : (t : ConForm) → P t
  each_constraint = ind-ConForm P (λ x y is. subst (λ z. P (roll-ConForm z)) is (layer_constraint y))
