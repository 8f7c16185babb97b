-- What each walk over a tree finds at each variant: one step of its fold. Made by a script from the enums.
use Rattle.std.proofs.Common.{◌≡◌, sym, ap, ◌∙◌, ℕ, ◌≤◌, List, [], ◌++◌, Option, None, take, length}
use Rattle.std.specs.List.{flat_map}
use Rattle.std.proofs.lemmas.List.{take_all}
use Rattle.std.proofs.lemmas.List.Folds.{flat_map-map}
use Rattle.rational.specs.Rational.{ℚ}
use Rattle.pddl_terms.specs.declared.trees.ExprTree.{ExprTree, fold-ExprTree, fold-roll-ExprTree}
use Rattle.pddl_terms.specs.declared.trees.ExprTree.TheOpen.{ExprTree-F}
use Rattle.pddl_terms.specs.declared.trees.ExprTree.TheVariants as expr
use Rattle.pddl_terms.specs.declared.trees.DurTree.{DurTree, fold-DurTree, fold-roll-DurTree}
use Rattle.pddl_terms.specs.declared.trees.DurTree.TheOpen.{DurTree-F}
use Rattle.pddl_terms.specs.declared.trees.DurTree.TheVariants as dur
use Rattle.pddl_terms.specs.declared.trees.CondTree.{CondTree, fold-CondTree, fold-roll-CondTree}
use Rattle.pddl_terms.specs.declared.trees.CondTree.TheOpen.{CondTree-F}
use Rattle.pddl_terms.specs.declared.trees.CondTree.TheVariants as cond
use Rattle.pddl_terms.specs.declared.trees.FactForm.{FactForm, fold-FactForm, fold-roll-FactForm}
use Rattle.pddl_terms.specs.declared.trees.FactForm.TheOpen.{FactForm-F}
use Rattle.pddl_terms.specs.declared.trees.FactForm.TheVariants as form
use Rattle.pddl_terms.specs.declared.trees.ConForm.{ConForm, fold-ConForm, fold-roll-ConForm}
use Rattle.pddl_terms.specs.declared.trees.ConForm.TheOpen.{ConForm-F}
use Rattle.pddl_terms.specs.declared.trees.ConForm.TheVariants as con
use Rattle.pddl_terms.specs.declared.trees.EffTree.{EffTree, fold-EffTree, fold-roll-EffTree}
use Rattle.pddl_terms.specs.declared.trees.EffTree.TheOpen.{EffTree-F}
use Rattle.pddl_terms.specs.declared.trees.EffTree.TheVariants as eff
use Rattle.pddl_terms.specs.declared.trees.TimedEff.{TimedEff, fold-TimedEff, fold-roll-TimedEff}
use Rattle.pddl_terms.specs.declared.trees.TimedEff.TheOpen.{TimedEff-F}
use Rattle.pddl_terms.specs.declared.trees.TimedEff.TheVariants as teff
use Rattle.pddl_terms.specs.declared.trees.TimedCond.{TimedCond, fold-TimedCond, fold-roll-TimedCond}
use Rattle.pddl_terms.specs.declared.trees.TimedCond.TheOpen.{TimedCond-F}
use Rattle.pddl_terms.specs.declared.trees.TimedCond.TheVariants as tcond
use Rattle.pddl_terms.specs.declared.trees.SoftTree.{SoftTree, fold-SoftTree, fold-roll-SoftTree}
use Rattle.pddl_terms.specs.declared.trees.SoftTree.TheOpen.{SoftTree-F}
use Rattle.pddl_terms.specs.declared.trees.SoftTree.TheVariants as soft
use Rattle.pddl_terms.specs.declared.trees.GoalTree.{GoalTree, fold-GoalTree, fold-roll-GoalTree}
use Rattle.pddl_terms.specs.declared.trees.GoalTree.TheOpen.{GoalTree-F}
use Rattle.pddl_terms.specs.declared.trees.GoalTree.TheVariants as goal
use Rattle.pddl_terms.specs.declared.trees.Atom.{Atom}
use Rattle.pddl_terms.specs.declared.trees.Call.{Call}
use Rattle.pddl_terms.specs.declared.trees.ChangeKind.{ChangeKind}
use Rattle.pddl_terms.specs.declared.trees.Comparison.{Comparison}
use Rattle.pddl_terms.specs.declared.trees.Group.{Group}
use Rattle.pddl_terms.specs.declared.trees.Name.{Name}
use Rattle.pddl_terms.specs.declared.trees.RateTree.{RateTree}
use Rattle.pddl_terms.specs.declared.trees.Side.{Side}
use Rattle.pddl_terms.specs.declared.trees.Trajectory.{Trajectory}
use Rattle.pddl_terms.specs.declared.trees.Trend.{Trend}
use Rattle.pddl_names.specs.declared.offences.Offence.{Offence}
use Rattle.pddl_names.specs.declared.offences.Phase.{Phase}
use Rattle.pddl_names.specs.declared.declarations.Tables.{Tables}
use Rattle.pddl_names.specs.Declarations.{Typed, typed, with_firsts, among}
use Rattle.pddl_names.specs.Offences.{earlier, least}
use Rattle.pddl_names.specs.Calls.{undeclared, in_names, variables_offences, bind, atom_offences, fluent_offences}
use Rattle.pddl_names.specs.Walks.{equal_offences, trajectory_offences, called_atom_offences, called_fluent_offences, rate_offences, expression_layer, expression_offences, duration_layer, duration_offences, condition_layer, condition_offences, formula_layer, formula_offences, constraint_layer, constraint_offences, effect_layer, effect_offences, timed_effect_layer, timed_effect_offences, timed_condition_layer, timed_condition_offences, soft_layer, soft_offences, goal_layer, goal_offences}
use Rattle.pddl_names.proofs.Least.{least-both}

-- expression_offences
module _ (p : Phase) (w : Tables) (scope : List Typed) where
  is-expression-Number : (a0 : ℕ) (a1 : ℚ) → expression_offences p w scope (expr.Number a0 a1) ≡ []
  unfolding expression_offences
  is-expression-Number a0 a1 = ap (λ t. fold-ExprTree (List Offence) (expression_layer p w scope) t) (sym (expr.rolls-Number a0 a1)) ∙ fold-roll-ExprTree (List Offence) (expression_layer p w scope) (ExprTree-F.Number a0 a1)

  pub expression-Number : {tree : ExprTree} {a0 : ℕ} {a1 : ℚ} → tree ≡ expr.Number a0 a1 → ◌≡◌ {A = Option Offence} None (least (expression_offences p w scope tree))
  expression-Number {tree} {a0} {a1} e = sym (ap (λ t. least (expression_offences p w scope t)) e ∙ ap least (is-expression-Number a0 a1))

  is-expression-Fluent : (a0 : Atom) → expression_offences p w scope (expr.Fluent a0) ≡ fluent_offences p w scope a0
  unfolding expression_offences
  is-expression-Fluent a0 = ap (λ t. fold-ExprTree (List Offence) (expression_layer p w scope) t) (sym (expr.rolls-Fluent a0)) ∙ fold-roll-ExprTree (List Offence) (expression_layer p w scope) (ExprTree-F.Fluent a0)

  pub expression-Fluent : {tree : ExprTree} {a0 : Atom} {r : Option Offence} → tree ≡ expr.Fluent a0 → r ≡ least (fluent_offences p w scope a0) → r ≡ least (expression_offences p w scope tree)
  expression-Fluent {tree} {a0} {r} e h = h ∙ sym (ap (λ t. least (expression_offences p w scope t)) e ∙ ap least (is-expression-Fluent a0))

  is-expression-Duration : (a0 : ℕ) → expression_offences p w scope (expr.Duration a0) ≡ []
  unfolding expression_offences
  is-expression-Duration a0 = ap (λ t. fold-ExprTree (List Offence) (expression_layer p w scope) t) (sym (expr.rolls-Duration a0)) ∙ fold-roll-ExprTree (List Offence) (expression_layer p w scope) (ExprTree-F.Duration a0)

  pub expression-Duration : {tree : ExprTree} {a0 : ℕ} → tree ≡ expr.Duration a0 → ◌≡◌ {A = Option Offence} None (least (expression_offences p w scope tree))
  expression-Duration {tree} {a0} e = sym (ap (λ t. least (expression_offences p w scope t)) e ∙ ap least (is-expression-Duration a0))

  is-expression-Sum : (a0 : ℕ) (a1 : List ExprTree) → expression_offences p w scope (expr.Sum a0 a1) ≡ flat_map (expression_offences p w scope) a1
  unfolding expression_offences
  is-expression-Sum a0 a1 = ap (λ t. fold-ExprTree (List Offence) (expression_layer p w scope) t) (sym (expr.rolls-Sum a0 a1)) ∙ fold-roll-ExprTree (List Offence) (expression_layer p w scope) (ExprTree-F.Sum a0 a1) ∙ flat_map-map (λ (part : List Offence). part) (fold-ExprTree (List Offence) (expression_layer p w scope)) a1

  pub expression-Sum : {tree : ExprTree} {a0 : ℕ} {a1 : List ExprTree} {xs : List ExprTree} {r : Option Offence} → tree ≡ expr.Sum a0 a1 → xs ≡ a1 → r ≡ least (flat_map (expression_offences p w scope) xs) → r ≡ least (expression_offences p w scope tree)
  expression-Sum {tree} {a0} {a1} {xs} {r} e f h = h ∙ ap (λ t. least (flat_map (expression_offences p w scope) t)) f ∙ sym (ap (λ t. least (expression_offences p w scope t)) e ∙ ap least (is-expression-Sum a0 a1))

  is-expression-Product : (a0 : ℕ) (a1 : List ExprTree) → expression_offences p w scope (expr.Product a0 a1) ≡ flat_map (expression_offences p w scope) a1
  unfolding expression_offences
  is-expression-Product a0 a1 = ap (λ t. fold-ExprTree (List Offence) (expression_layer p w scope) t) (sym (expr.rolls-Product a0 a1)) ∙ fold-roll-ExprTree (List Offence) (expression_layer p w scope) (ExprTree-F.Product a0 a1) ∙ flat_map-map (λ (part : List Offence). part) (fold-ExprTree (List Offence) (expression_layer p w scope)) a1

  pub expression-Product : {tree : ExprTree} {a0 : ℕ} {a1 : List ExprTree} {xs : List ExprTree} {r : Option Offence} → tree ≡ expr.Product a0 a1 → xs ≡ a1 → r ≡ least (flat_map (expression_offences p w scope) xs) → r ≡ least (expression_offences p w scope tree)
  expression-Product {tree} {a0} {a1} {xs} {r} e f h = h ∙ ap (λ t. least (flat_map (expression_offences p w scope) t)) f ∙ sym (ap (λ t. least (expression_offences p w scope t)) e ∙ ap least (is-expression-Product a0 a1))

  is-expression-Negative : (a0 : ℕ) (a1 : ExprTree) → expression_offences p w scope (expr.Negative a0 a1) ≡ expression_offences p w scope a1
  unfolding expression_offences
  is-expression-Negative a0 a1 = ap (λ t. fold-ExprTree (List Offence) (expression_layer p w scope) t) (sym (expr.rolls-Negative a0 a1)) ∙ fold-roll-ExprTree (List Offence) (expression_layer p w scope) (ExprTree-F.Negative a0 a1)

  pub expression-Negative : {tree : ExprTree} {a0 : ℕ} {a1 : ExprTree} {x : ExprTree} {r : Option Offence} → tree ≡ expr.Negative a0 a1 → x ≡ a1 → r ≡ least (expression_offences p w scope x) → r ≡ least (expression_offences p w scope tree)
  expression-Negative {tree} {a0} {a1} {x} {r} e f h = h ∙ ap (λ t. least (expression_offences p w scope t)) f ∙ sym (ap (λ t. least (expression_offences p w scope t)) e ∙ ap least (is-expression-Negative a0 a1))

  is-expression-Difference : (a0 : ℕ) (a1 : ExprTree) (a2 : ExprTree) → expression_offences p w scope (expr.Difference a0 a1 a2) ≡ expression_offences p w scope a1 ++ expression_offences p w scope a2
  unfolding expression_offences
  is-expression-Difference a0 a1 a2 = ap (λ t. fold-ExprTree (List Offence) (expression_layer p w scope) t) (sym (expr.rolls-Difference a0 a1 a2)) ∙ fold-roll-ExprTree (List Offence) (expression_layer p w scope) (ExprTree-F.Difference a0 a1 a2)

  pub expression-Difference : {tree : ExprTree} {a0 : ℕ} {a1 : ExprTree} {a2 : ExprTree} {x y : ExprTree} {l m r : Option Offence} → tree ≡ expr.Difference a0 a1 a2 → x ≡ a1 → y ≡ a2 → l ≡ least (expression_offences p w scope x) → m ≡ least (expression_offences p w scope y) → r ≡ earlier l m → r ≡ least (expression_offences p w scope tree)
  expression-Difference {tree} {a0} {a1} {a2} {x} {y} {l} {m} {r} e f g h k n = n ∙ least-both l m (expression_offences p w scope a1) (expression_offences p w scope a2) (h ∙ ap (λ t. least (expression_offences p w scope t)) f) (k ∙ ap (λ t. least (expression_offences p w scope t)) g) ∙ sym (ap (λ t. least (expression_offences p w scope t)) e ∙ ap least (is-expression-Difference a0 a1 a2))

  is-expression-Quotient : (a0 : ℕ) (a1 : ExprTree) (a2 : ExprTree) → expression_offences p w scope (expr.Quotient a0 a1 a2) ≡ expression_offences p w scope a1 ++ expression_offences p w scope a2
  unfolding expression_offences
  is-expression-Quotient a0 a1 a2 = ap (λ t. fold-ExprTree (List Offence) (expression_layer p w scope) t) (sym (expr.rolls-Quotient a0 a1 a2)) ∙ fold-roll-ExprTree (List Offence) (expression_layer p w scope) (ExprTree-F.Quotient a0 a1 a2)

  pub expression-Quotient : {tree : ExprTree} {a0 : ℕ} {a1 : ExprTree} {a2 : ExprTree} {x y : ExprTree} {l m r : Option Offence} → tree ≡ expr.Quotient a0 a1 a2 → x ≡ a1 → y ≡ a2 → l ≡ least (expression_offences p w scope x) → m ≡ least (expression_offences p w scope y) → r ≡ earlier l m → r ≡ least (expression_offences p w scope tree)
  expression-Quotient {tree} {a0} {a1} {a2} {x} {y} {l} {m} {r} e f g h k n = n ∙ least-both l m (expression_offences p w scope a1) (expression_offences p w scope a2) (h ∙ ap (λ t. least (expression_offences p w scope t)) f) (k ∙ ap (λ t. least (expression_offences p w scope t)) g) ∙ sym (ap (λ t. least (expression_offences p w scope t)) e ∙ ap least (is-expression-Quotient a0 a1 a2))

  is-expression-LeftOut : (a0 : ℕ) → expression_offences p w scope (expr.LeftOut a0) ≡ []
  unfolding expression_offences
  is-expression-LeftOut a0 = ap (λ t. fold-ExprTree (List Offence) (expression_layer p w scope) t) (sym (expr.rolls-LeftOut a0)) ∙ fold-roll-ExprTree (List Offence) (expression_layer p w scope) (ExprTree-F.LeftOut a0)

  pub expression-LeftOut : {tree : ExprTree} {a0 : ℕ} → tree ≡ expr.LeftOut a0 → ◌≡◌ {A = Option Offence} None (least (expression_offences p w scope tree))
  expression-LeftOut {tree} {a0} e = sym (ap (λ t. least (expression_offences p w scope t)) e ∙ ap least (is-expression-LeftOut a0))

  is-expression-TotalTime : (a0 : ℕ) → expression_offences p w scope (expr.TotalTime a0) ≡ []
  unfolding expression_offences
  is-expression-TotalTime a0 = ap (λ t. fold-ExprTree (List Offence) (expression_layer p w scope) t) (sym (expr.rolls-TotalTime a0)) ∙ fold-roll-ExprTree (List Offence) (expression_layer p w scope) (ExprTree-F.TotalTime a0)

  pub expression-TotalTime : {tree : ExprTree} {a0 : ℕ} → tree ≡ expr.TotalTime a0 → ◌≡◌ {A = Option Offence} None (least (expression_offences p w scope tree))
  expression-TotalTime {tree} {a0} e = sym (ap (λ t. least (expression_offences p w scope t)) e ∙ ap least (is-expression-TotalTime a0))

  is-expression-Violated : (a0 : ℕ) (a1 : Name) → expression_offences p w scope (expr.Violated a0 a1) ≡ in_names p (undeclared (among w.preferences a1.bytes) a1)
  unfolding expression_offences
  is-expression-Violated a0 a1 = ap (λ t. fold-ExprTree (List Offence) (expression_layer p w scope) t) (sym (expr.rolls-Violated a0 a1)) ∙ fold-roll-ExprTree (List Offence) (expression_layer p w scope) (ExprTree-F.Violated a0 a1)

  pub expression-Violated : {tree : ExprTree} {a0 : ℕ} {a1 : Name} {r : Option Offence} → tree ≡ expr.Violated a0 a1 → r ≡ least (in_names p (undeclared (among w.preferences a1.bytes) a1)) → r ≡ least (expression_offences p w scope tree)
  expression-Violated {tree} {a0} {a1} {r} e h = h ∙ sym (ap (λ t. least (expression_offences p w scope t)) e ∙ ap least (is-expression-Violated a0 a1))

  is-expression-TimeCost : (a0 : ℕ) (a1 : Name) → expression_offences p w scope (expr.TimeCost a0 a1) ≡ in_names p (undeclared (among w.time_costs a1.bytes) a1)
  unfolding expression_offences
  is-expression-TimeCost a0 a1 = ap (λ t. fold-ExprTree (List Offence) (expression_layer p w scope) t) (sym (expr.rolls-TimeCost a0 a1)) ∙ fold-roll-ExprTree (List Offence) (expression_layer p w scope) (ExprTree-F.TimeCost a0 a1)

  pub expression-TimeCost : {tree : ExprTree} {a0 : ℕ} {a1 : Name} {r : Option Offence} → tree ≡ expr.TimeCost a0 a1 → r ≡ least (in_names p (undeclared (among w.time_costs a1.bytes) a1)) → r ≡ least (expression_offences p w scope tree)
  expression-TimeCost {tree} {a0} {a1} {r} e h = h ∙ sym (ap (λ t. least (expression_offences p w scope t)) e ∙ ap least (is-expression-TimeCost a0 a1))

-- duration_offences
module _ (p : Phase) (w : Tables) (scope : List Typed) where
  is-duration-And : (a0 : ℕ) (a1 : List DurTree) → duration_offences p w scope (dur.And a0 a1) ≡ flat_map (duration_offences p w scope) a1
  unfolding duration_offences
  is-duration-And a0 a1 = ap (λ t. fold-DurTree (List Offence) (duration_layer p w scope) t) (sym (dur.rolls-And a0 a1)) ∙ fold-roll-DurTree (List Offence) (duration_layer p w scope) (DurTree-F.And a0 a1) ∙ flat_map-map (λ (part : List Offence). part) (fold-DurTree (List Offence) (duration_layer p w scope)) a1

  pub duration-And : {tree : DurTree} {a0 : ℕ} {a1 : List DurTree} {xs : List DurTree} {n : ℕ} {r : Option Offence} → tree ≡ dur.And a0 a1 → xs ≡ a1 → length xs ≤ n → r ≡ least (flat_map (duration_offences p w scope) (take n xs)) → r ≡ least (duration_offences p w scope tree)
  duration-And {tree} {a0} {a1} {xs} {n} {r} e f l h = h ∙ ap (λ t. least (flat_map (duration_offences p w scope) t)) (take_all n xs l ∙ f) ∙ sym (ap (λ t. least (duration_offences p w scope t)) e ∙ ap least (is-duration-And a0 a1))

  is-duration-AtStart : (a0 : ℕ) (a1 : DurTree) → duration_offences p w scope (dur.AtStart a0 a1) ≡ duration_offences p w scope a1
  unfolding duration_offences
  is-duration-AtStart a0 a1 = ap (λ t. fold-DurTree (List Offence) (duration_layer p w scope) t) (sym (dur.rolls-AtStart a0 a1)) ∙ fold-roll-DurTree (List Offence) (duration_layer p w scope) (DurTree-F.AtStart a0 a1)

  pub duration-AtStart : {tree : DurTree} {a0 : ℕ} {a1 : DurTree} {x : DurTree} {r : Option Offence} → tree ≡ dur.AtStart a0 a1 → x ≡ a1 → r ≡ least (duration_offences p w scope x) → r ≡ least (duration_offences p w scope tree)
  duration-AtStart {tree} {a0} {a1} {x} {r} e f h = h ∙ ap (λ t. least (duration_offences p w scope t)) f ∙ sym (ap (λ t. least (duration_offences p w scope t)) e ∙ ap least (is-duration-AtStart a0 a1))

  is-duration-AtEnd : (a0 : ℕ) (a1 : DurTree) → duration_offences p w scope (dur.AtEnd a0 a1) ≡ duration_offences p w scope a1
  unfolding duration_offences
  is-duration-AtEnd a0 a1 = ap (λ t. fold-DurTree (List Offence) (duration_layer p w scope) t) (sym (dur.rolls-AtEnd a0 a1)) ∙ fold-roll-DurTree (List Offence) (duration_layer p w scope) (DurTree-F.AtEnd a0 a1)

  pub duration-AtEnd : {tree : DurTree} {a0 : ℕ} {a1 : DurTree} {x : DurTree} {r : Option Offence} → tree ≡ dur.AtEnd a0 a1 → x ≡ a1 → r ≡ least (duration_offences p w scope x) → r ≡ least (duration_offences p w scope tree)
  duration-AtEnd {tree} {a0} {a1} {x} {r} e f h = h ∙ ap (λ t. least (duration_offences p w scope t)) f ∙ sym (ap (λ t. least (duration_offences p w scope t)) e ∙ ap least (is-duration-AtEnd a0 a1))

  is-duration-Bound : (a0 : ℕ) (a1 : Comparison) (a2 : ExprTree) → duration_offences p w scope (dur.Bound a0 a1 a2) ≡ expression_offences p w scope a2
  unfolding duration_offences
  is-duration-Bound a0 a1 a2 = ap (λ t. fold-DurTree (List Offence) (duration_layer p w scope) t) (sym (dur.rolls-Bound a0 a1 a2)) ∙ fold-roll-DurTree (List Offence) (duration_layer p w scope) (DurTree-F.Bound a0 a1 a2)

  pub duration-Bound : {tree : DurTree} {a0 : ℕ} {a1 : Comparison} {a2 : ExprTree} {r : Option Offence} → tree ≡ dur.Bound a0 a1 a2 → r ≡ least (expression_offences p w scope a2) → r ≡ least (duration_offences p w scope tree)
  duration-Bound {tree} {a0} {a1} {a2} {r} e h = h ∙ sym (ap (λ t. least (duration_offences p w scope t)) e ∙ ap least (is-duration-Bound a0 a1 a2))

  is-duration-LeftOut : (a0 : ℕ) → duration_offences p w scope (dur.LeftOut a0) ≡ []
  unfolding duration_offences
  is-duration-LeftOut a0 = ap (λ t. fold-DurTree (List Offence) (duration_layer p w scope) t) (sym (dur.rolls-LeftOut a0)) ∙ fold-roll-DurTree (List Offence) (duration_layer p w scope) (DurTree-F.LeftOut a0)

  pub duration-LeftOut : {tree : DurTree} {a0 : ℕ} → tree ≡ dur.LeftOut a0 → ◌≡◌ {A = Option Offence} None (least (duration_offences p w scope tree))
  duration-LeftOut {tree} {a0} e = sym (ap (λ t. least (duration_offences p w scope t)) e ∙ ap least (is-duration-LeftOut a0))

-- condition_offences
module _ (p : Phase) (w : Tables) (scope : List Typed) where
  is-condition-Empty : (a0 : ℕ) → condition_offences p w scope (cond.Empty a0) ≡ []
  unfolding condition_offences
  is-condition-Empty a0 = ap (λ t. fold-CondTree (List Typed → List Offence) (condition_layer p w) t scope) (sym (cond.rolls-Empty a0)) ∙ ap (λ f. f scope) (fold-roll-CondTree (List Typed → List Offence) (condition_layer p w) (CondTree-F.Empty a0))

  pub condition-Empty : {tree : CondTree} {a0 : ℕ} → tree ≡ cond.Empty a0 → ◌≡◌ {A = Option Offence} None (least (condition_offences p w scope tree))
  condition-Empty {tree} {a0} e = sym (ap (λ t. least (condition_offences p w scope t)) e ∙ ap least (is-condition-Empty a0))

  is-condition-And : (a0 : ℕ) (a1 : List CondTree) → condition_offences p w scope (cond.And a0 a1) ≡ flat_map (condition_offences p w scope) a1
  unfolding condition_offences
  is-condition-And a0 a1 = ap (λ t. fold-CondTree (List Typed → List Offence) (condition_layer p w) t scope) (sym (cond.rolls-And a0 a1)) ∙ ap (λ f. f scope) (fold-roll-CondTree (List Typed → List Offence) (condition_layer p w) (CondTree-F.And a0 a1)) ∙ flat_map-map (λ (part : List Typed → List Offence). part scope) (fold-CondTree (List Typed → List Offence) (condition_layer p w)) a1

  pub condition-And : {tree : CondTree} {a0 : ℕ} {a1 : List CondTree} {xs : List CondTree} {n : ℕ} {r : Option Offence} → tree ≡ cond.And a0 a1 → xs ≡ a1 → length xs ≤ n → r ≡ least (flat_map (condition_offences p w scope) (take n xs)) → r ≡ least (condition_offences p w scope tree)
  condition-And {tree} {a0} {a1} {xs} {n} {r} e f l h = h ∙ ap (λ t. least (flat_map (condition_offences p w scope) t)) (take_all n xs l ∙ f) ∙ sym (ap (λ t. least (condition_offences p w scope t)) e ∙ ap least (is-condition-And a0 a1))

  is-condition-Forall : (a0 : ℕ) (a1 : List Group) (a2 : CondTree) → condition_offences p w scope (cond.Forall a0 a1 a2) ≡ variables_offences p w a1 ++ condition_offences p w (bind a1 scope) a2
  unfolding condition_offences
  is-condition-Forall a0 a1 a2 = ap (λ t. fold-CondTree (List Typed → List Offence) (condition_layer p w) t scope) (sym (cond.rolls-Forall a0 a1 a2)) ∙ ap (λ f. f scope) (fold-roll-CondTree (List Typed → List Offence) (condition_layer p w) (CondTree-F.Forall a0 a1 a2))

  pub condition-Forall : {tree : CondTree} {a0 : ℕ} {a1 : List Group} {a2 : CondTree} {gs : List Group} {vars : List Typed} {x : CondTree} {l m r : Option Offence} → tree ≡ cond.Forall a0 a1 a2 → gs ≡ a1 → vars ≡ with_firsts [] (typed gs) → x ≡ a2 → l ≡ least (variables_offences p w gs) → m ≡ least (condition_offences p w (vars ++ scope) x) → r ≡ earlier l m → r ≡ least (condition_offences p w scope tree)
  condition-Forall {tree} {a0} {a1} {a2} {gs} {vars} {x} {l} {m} {r} e f v b h k n = n ∙ least-both l m (variables_offences p w a1) (condition_offences p w (bind a1 scope) a2) (h ∙ ap (λ t. least (variables_offences p w t)) f) (k ∙ ap (λ t. least (condition_offences p w t x)) (ap (λ t. t ++ scope) v ∙ ap (λ t. bind t scope) f) ∙ ap (λ t. least (condition_offences p w (bind a1 scope) t)) b) ∙ sym (ap (λ t. least (condition_offences p w scope t)) e ∙ ap least (is-condition-Forall a0 a1 a2))

  is-condition-Atom : (a0 : Atom) → condition_offences p w scope (cond.Atom a0) ≡ atom_offences p w scope a0
  unfolding condition_offences
  is-condition-Atom a0 = ap (λ t. fold-CondTree (List Typed → List Offence) (condition_layer p w) t scope) (sym (cond.rolls-Atom a0)) ∙ ap (λ f. f scope) (fold-roll-CondTree (List Typed → List Offence) (condition_layer p w) (CondTree-F.Atom a0))

  pub condition-Atom : {tree : CondTree} {a0 : Atom} {r : Option Offence} → tree ≡ cond.Atom a0 → r ≡ least (atom_offences p w scope a0) → r ≡ least (condition_offences p w scope tree)
  condition-Atom {tree} {a0} {r} e h = h ∙ sym (ap (λ t. least (condition_offences p w scope t)) e ∙ ap least (is-condition-Atom a0))

  is-condition-Not : (a0 : ℕ) (a1 : CondTree) → condition_offences p w scope (cond.Not a0 a1) ≡ condition_offences p w scope a1
  unfolding condition_offences
  is-condition-Not a0 a1 = ap (λ t. fold-CondTree (List Typed → List Offence) (condition_layer p w) t scope) (sym (cond.rolls-Not a0 a1)) ∙ ap (λ f. f scope) (fold-roll-CondTree (List Typed → List Offence) (condition_layer p w) (CondTree-F.Not a0 a1))

  pub condition-Not : {tree : CondTree} {a0 : ℕ} {a1 : CondTree} {x : CondTree} {r : Option Offence} → tree ≡ cond.Not a0 a1 → x ≡ a1 → r ≡ least (condition_offences p w scope x) → r ≡ least (condition_offences p w scope tree)
  condition-Not {tree} {a0} {a1} {x} {r} e f h = h ∙ ap (λ t. least (condition_offences p w scope t)) f ∙ sym (ap (λ t. least (condition_offences p w scope t)) e ∙ ap least (is-condition-Not a0 a1))

  is-condition-Equal : (a0 : ℕ) (a1 : Side) (a2 : Side) → condition_offences p w scope (cond.Equal a0 a1 a2) ≡ equal_offences p w scope a1 a2
  unfolding condition_offences
  is-condition-Equal a0 a1 a2 = ap (λ t. fold-CondTree (List Typed → List Offence) (condition_layer p w) t scope) (sym (cond.rolls-Equal a0 a1 a2)) ∙ ap (λ f. f scope) (fold-roll-CondTree (List Typed → List Offence) (condition_layer p w) (CondTree-F.Equal a0 a1 a2))

  pub condition-Equal : {tree : CondTree} {a0 : ℕ} {a1 : Side} {a2 : Side} {r : Option Offence} → tree ≡ cond.Equal a0 a1 a2 → r ≡ least (equal_offences p w scope a1 a2) → r ≡ least (condition_offences p w scope tree)
  condition-Equal {tree} {a0} {a1} {a2} {r} e h = h ∙ sym (ap (λ t. least (condition_offences p w scope t)) e ∙ ap least (is-condition-Equal a0 a1 a2))

  is-condition-Compare : (a0 : ℕ) (a1 : Comparison) (a2 : ExprTree) (a3 : ExprTree) → condition_offences p w scope (cond.Compare a0 a1 a2 a3) ≡ expression_offences p w scope a2 ++ expression_offences p w scope a3
  unfolding condition_offences
  is-condition-Compare a0 a1 a2 a3 = ap (λ t. fold-CondTree (List Typed → List Offence) (condition_layer p w) t scope) (sym (cond.rolls-Compare a0 a1 a2 a3)) ∙ ap (λ f. f scope) (fold-roll-CondTree (List Typed → List Offence) (condition_layer p w) (CondTree-F.Compare a0 a1 a2 a3))

  pub condition-Compare : {tree : CondTree} {a0 : ℕ} {a1 : Comparison} {a2 : ExprTree} {a3 : ExprTree} {l m r : Option Offence} → tree ≡ cond.Compare a0 a1 a2 a3 → l ≡ least (expression_offences p w scope a2) → m ≡ least (expression_offences p w scope a3) → r ≡ earlier l m → r ≡ least (condition_offences p w scope tree)
  condition-Compare {tree} {a0} {a1} {a2} {a3} {l} {m} {r} e h k n = n ∙ least-both l m (expression_offences p w scope a2) (expression_offences p w scope a3) h k ∙ sym (ap (λ t. least (condition_offences p w scope t)) e ∙ ap least (is-condition-Compare a0 a1 a2 a3))

  is-condition-LeftOut : (a0 : ℕ) → condition_offences p w scope (cond.LeftOut a0) ≡ []
  unfolding condition_offences
  is-condition-LeftOut a0 = ap (λ t. fold-CondTree (List Typed → List Offence) (condition_layer p w) t scope) (sym (cond.rolls-LeftOut a0)) ∙ ap (λ f. f scope) (fold-roll-CondTree (List Typed → List Offence) (condition_layer p w) (CondTree-F.LeftOut a0))

  pub condition-LeftOut : {tree : CondTree} {a0 : ℕ} → tree ≡ cond.LeftOut a0 → ◌≡◌ {A = Option Offence} None (least (condition_offences p w scope tree))
  condition-LeftOut {tree} {a0} e = sym (ap (λ t. least (condition_offences p w scope t)) e ∙ ap least (is-condition-LeftOut a0))

-- formula_offences
module _ (p : Phase) (w : Tables) (scope : List Typed) where
  is-formula-Empty : (a0 : ℕ) → formula_offences p w scope (form.Empty a0) ≡ []
  unfolding formula_offences
  is-formula-Empty a0 = ap (λ t. fold-FactForm (List Typed → List Offence) (formula_layer p w) t scope) (sym (form.rolls-Empty a0)) ∙ ap (λ f. f scope) (fold-roll-FactForm (List Typed → List Offence) (formula_layer p w) (FactForm-F.Empty a0))

  pub formula-Empty : {tree : FactForm} {a0 : ℕ} → tree ≡ form.Empty a0 → ◌≡◌ {A = Option Offence} None (least (formula_offences p w scope tree))
  formula-Empty {tree} {a0} e = sym (ap (λ t. least (formula_offences p w scope t)) e ∙ ap least (is-formula-Empty a0))

  is-formula-Atom : (a0 : Atom) → formula_offences p w scope (form.Atom a0) ≡ atom_offences p w scope a0
  unfolding formula_offences
  is-formula-Atom a0 = ap (λ t. fold-FactForm (List Typed → List Offence) (formula_layer p w) t scope) (sym (form.rolls-Atom a0)) ∙ ap (λ f. f scope) (fold-roll-FactForm (List Typed → List Offence) (formula_layer p w) (FactForm-F.Atom a0))

  pub formula-Atom : {tree : FactForm} {a0 : Atom} {r : Option Offence} → tree ≡ form.Atom a0 → r ≡ least (atom_offences p w scope a0) → r ≡ least (formula_offences p w scope tree)
  formula-Atom {tree} {a0} {r} e h = h ∙ sym (ap (λ t. least (formula_offences p w scope t)) e ∙ ap least (is-formula-Atom a0))

  is-formula-Equal : (a0 : ℕ) (a1 : Side) (a2 : Side) → formula_offences p w scope (form.Equal a0 a1 a2) ≡ equal_offences p w scope a1 a2
  unfolding formula_offences
  is-formula-Equal a0 a1 a2 = ap (λ t. fold-FactForm (List Typed → List Offence) (formula_layer p w) t scope) (sym (form.rolls-Equal a0 a1 a2)) ∙ ap (λ f. f scope) (fold-roll-FactForm (List Typed → List Offence) (formula_layer p w) (FactForm-F.Equal a0 a1 a2))

  pub formula-Equal : {tree : FactForm} {a0 : ℕ} {a1 : Side} {a2 : Side} {r : Option Offence} → tree ≡ form.Equal a0 a1 a2 → r ≡ least (equal_offences p w scope a1 a2) → r ≡ least (formula_offences p w scope tree)
  formula-Equal {tree} {a0} {a1} {a2} {r} e h = h ∙ sym (ap (λ t. least (formula_offences p w scope t)) e ∙ ap least (is-formula-Equal a0 a1 a2))

  is-formula-And : (a0 : ℕ) (a1 : List FactForm) → formula_offences p w scope (form.And a0 a1) ≡ flat_map (formula_offences p w scope) a1
  unfolding formula_offences
  is-formula-And a0 a1 = ap (λ t. fold-FactForm (List Typed → List Offence) (formula_layer p w) t scope) (sym (form.rolls-And a0 a1)) ∙ ap (λ f. f scope) (fold-roll-FactForm (List Typed → List Offence) (formula_layer p w) (FactForm-F.And a0 a1)) ∙ flat_map-map (λ (part : List Typed → List Offence). part scope) (fold-FactForm (List Typed → List Offence) (formula_layer p w)) a1

  pub formula-And : {tree : FactForm} {a0 : ℕ} {a1 : List FactForm} {xs : List FactForm} {r : Option Offence} → tree ≡ form.And a0 a1 → xs ≡ a1 → r ≡ least (flat_map (formula_offences p w scope) xs) → r ≡ least (formula_offences p w scope tree)
  formula-And {tree} {a0} {a1} {xs} {r} e f h = h ∙ ap (λ t. least (flat_map (formula_offences p w scope) t)) f ∙ sym (ap (λ t. least (formula_offences p w scope t)) e ∙ ap least (is-formula-And a0 a1))

  is-formula-Or : (a0 : ℕ) (a1 : List FactForm) → formula_offences p w scope (form.Or a0 a1) ≡ flat_map (formula_offences p w scope) a1
  unfolding formula_offences
  is-formula-Or a0 a1 = ap (λ t. fold-FactForm (List Typed → List Offence) (formula_layer p w) t scope) (sym (form.rolls-Or a0 a1)) ∙ ap (λ f. f scope) (fold-roll-FactForm (List Typed → List Offence) (formula_layer p w) (FactForm-F.Or a0 a1)) ∙ flat_map-map (λ (part : List Typed → List Offence). part scope) (fold-FactForm (List Typed → List Offence) (formula_layer p w)) a1

  pub formula-Or : {tree : FactForm} {a0 : ℕ} {a1 : List FactForm} {xs : List FactForm} {r : Option Offence} → tree ≡ form.Or a0 a1 → xs ≡ a1 → r ≡ least (flat_map (formula_offences p w scope) xs) → r ≡ least (formula_offences p w scope tree)
  formula-Or {tree} {a0} {a1} {xs} {r} e f h = h ∙ ap (λ t. least (flat_map (formula_offences p w scope) t)) f ∙ sym (ap (λ t. least (formula_offences p w scope t)) e ∙ ap least (is-formula-Or a0 a1))

  is-formula-Not : (a0 : ℕ) (a1 : FactForm) → formula_offences p w scope (form.Not a0 a1) ≡ formula_offences p w scope a1
  unfolding formula_offences
  is-formula-Not a0 a1 = ap (λ t. fold-FactForm (List Typed → List Offence) (formula_layer p w) t scope) (sym (form.rolls-Not a0 a1)) ∙ ap (λ f. f scope) (fold-roll-FactForm (List Typed → List Offence) (formula_layer p w) (FactForm-F.Not a0 a1))

  pub formula-Not : {tree : FactForm} {a0 : ℕ} {a1 : FactForm} {x : FactForm} {r : Option Offence} → tree ≡ form.Not a0 a1 → x ≡ a1 → r ≡ least (formula_offences p w scope x) → r ≡ least (formula_offences p w scope tree)
  formula-Not {tree} {a0} {a1} {x} {r} e f h = h ∙ ap (λ t. least (formula_offences p w scope t)) f ∙ sym (ap (λ t. least (formula_offences p w scope t)) e ∙ ap least (is-formula-Not a0 a1))

  is-formula-Imply : (a0 : ℕ) (a1 : FactForm) (a2 : FactForm) → formula_offences p w scope (form.Imply a0 a1 a2) ≡ formula_offences p w scope a1 ++ formula_offences p w scope a2
  unfolding formula_offences
  is-formula-Imply a0 a1 a2 = ap (λ t. fold-FactForm (List Typed → List Offence) (formula_layer p w) t scope) (sym (form.rolls-Imply a0 a1 a2)) ∙ ap (λ f. f scope) (fold-roll-FactForm (List Typed → List Offence) (formula_layer p w) (FactForm-F.Imply a0 a1 a2))

  pub formula-Imply : {tree : FactForm} {a0 : ℕ} {a1 : FactForm} {a2 : FactForm} {x y : FactForm} {l m r : Option Offence} → tree ≡ form.Imply a0 a1 a2 → x ≡ a1 → y ≡ a2 → l ≡ least (formula_offences p w scope x) → m ≡ least (formula_offences p w scope y) → r ≡ earlier l m → r ≡ least (formula_offences p w scope tree)
  formula-Imply {tree} {a0} {a1} {a2} {x} {y} {l} {m} {r} e f g h k n = n ∙ least-both l m (formula_offences p w scope a1) (formula_offences p w scope a2) (h ∙ ap (λ t. least (formula_offences p w scope t)) f) (k ∙ ap (λ t. least (formula_offences p w scope t)) g) ∙ sym (ap (λ t. least (formula_offences p w scope t)) e ∙ ap least (is-formula-Imply a0 a1 a2))

  is-formula-Exists : (a0 : ℕ) (a1 : List Group) (a2 : FactForm) → formula_offences p w scope (form.Exists a0 a1 a2) ≡ variables_offences p w a1 ++ formula_offences p w (bind a1 scope) a2
  unfolding formula_offences
  is-formula-Exists a0 a1 a2 = ap (λ t. fold-FactForm (List Typed → List Offence) (formula_layer p w) t scope) (sym (form.rolls-Exists a0 a1 a2)) ∙ ap (λ f. f scope) (fold-roll-FactForm (List Typed → List Offence) (formula_layer p w) (FactForm-F.Exists a0 a1 a2))

  pub formula-Exists : {tree : FactForm} {a0 : ℕ} {a1 : List Group} {a2 : FactForm} {gs : List Group} {vars : List Typed} {x : FactForm} {l m r : Option Offence} → tree ≡ form.Exists a0 a1 a2 → gs ≡ a1 → vars ≡ with_firsts [] (typed gs) → x ≡ a2 → l ≡ least (variables_offences p w gs) → m ≡ least (formula_offences p w (vars ++ scope) x) → r ≡ earlier l m → r ≡ least (formula_offences p w scope tree)
  formula-Exists {tree} {a0} {a1} {a2} {gs} {vars} {x} {l} {m} {r} e f v b h k n = n ∙ least-both l m (variables_offences p w a1) (formula_offences p w (bind a1 scope) a2) (h ∙ ap (λ t. least (variables_offences p w t)) f) (k ∙ ap (λ t. least (formula_offences p w t x)) (ap (λ t. t ++ scope) v ∙ ap (λ t. bind t scope) f) ∙ ap (λ t. least (formula_offences p w (bind a1 scope) t)) b) ∙ sym (ap (λ t. least (formula_offences p w scope t)) e ∙ ap least (is-formula-Exists a0 a1 a2))

  is-formula-Forall : (a0 : ℕ) (a1 : List Group) (a2 : FactForm) → formula_offences p w scope (form.Forall a0 a1 a2) ≡ variables_offences p w a1 ++ formula_offences p w (bind a1 scope) a2
  unfolding formula_offences
  is-formula-Forall a0 a1 a2 = ap (λ t. fold-FactForm (List Typed → List Offence) (formula_layer p w) t scope) (sym (form.rolls-Forall a0 a1 a2)) ∙ ap (λ f. f scope) (fold-roll-FactForm (List Typed → List Offence) (formula_layer p w) (FactForm-F.Forall a0 a1 a2))

  pub formula-Forall : {tree : FactForm} {a0 : ℕ} {a1 : List Group} {a2 : FactForm} {gs : List Group} {vars : List Typed} {x : FactForm} {l m r : Option Offence} → tree ≡ form.Forall a0 a1 a2 → gs ≡ a1 → vars ≡ with_firsts [] (typed gs) → x ≡ a2 → l ≡ least (variables_offences p w gs) → m ≡ least (formula_offences p w (vars ++ scope) x) → r ≡ earlier l m → r ≡ least (formula_offences p w scope tree)
  formula-Forall {tree} {a0} {a1} {a2} {gs} {vars} {x} {l} {m} {r} e f v b h k n = n ∙ least-both l m (variables_offences p w a1) (formula_offences p w (bind a1 scope) a2) (h ∙ ap (λ t. least (variables_offences p w t)) f) (k ∙ ap (λ t. least (formula_offences p w t x)) (ap (λ t. t ++ scope) v ∙ ap (λ t. bind t scope) f) ∙ ap (λ t. least (formula_offences p w (bind a1 scope) t)) b) ∙ sym (ap (λ t. least (formula_offences p w scope t)) e ∙ ap least (is-formula-Forall a0 a1 a2))

  is-formula-LeftOut : (a0 : ℕ) → formula_offences p w scope (form.LeftOut a0) ≡ []
  unfolding formula_offences
  is-formula-LeftOut a0 = ap (λ t. fold-FactForm (List Typed → List Offence) (formula_layer p w) t scope) (sym (form.rolls-LeftOut a0)) ∙ ap (λ f. f scope) (fold-roll-FactForm (List Typed → List Offence) (formula_layer p w) (FactForm-F.LeftOut a0))

  pub formula-LeftOut : {tree : FactForm} {a0 : ℕ} → tree ≡ form.LeftOut a0 → ◌≡◌ {A = Option Offence} None (least (formula_offences p w scope tree))
  formula-LeftOut {tree} {a0} e = sym (ap (λ t. least (formula_offences p w scope t)) e ∙ ap least (is-formula-LeftOut a0))

-- constraint_offences
module _ (p : Phase) (w : Tables) (scope : List Typed) where
  is-constraint-And : (a0 : ℕ) (a1 : List ConForm) → constraint_offences p w scope (con.And a0 a1) ≡ flat_map (constraint_offences p w scope) a1
  unfolding constraint_offences
  is-constraint-And a0 a1 = ap (λ t. fold-ConForm (List Typed → List Offence) (constraint_layer p w) t scope) (sym (con.rolls-And a0 a1)) ∙ ap (λ f. f scope) (fold-roll-ConForm (List Typed → List Offence) (constraint_layer p w) (ConForm-F.And a0 a1)) ∙ flat_map-map (λ (part : List Typed → List Offence). part scope) (fold-ConForm (List Typed → List Offence) (constraint_layer p w)) a1

  pub constraint-And : {tree : ConForm} {a0 : ℕ} {a1 : List ConForm} {xs : List ConForm} {n : ℕ} {r : Option Offence} → tree ≡ con.And a0 a1 → xs ≡ a1 → length xs ≤ n → r ≡ least (flat_map (constraint_offences p w scope) (take n xs)) → r ≡ least (constraint_offences p w scope tree)
  constraint-And {tree} {a0} {a1} {xs} {n} {r} e f l h = h ∙ ap (λ t. least (flat_map (constraint_offences p w scope) t)) (take_all n xs l ∙ f) ∙ sym (ap (λ t. least (constraint_offences p w scope t)) e ∙ ap least (is-constraint-And a0 a1))

  is-constraint-Forall : (a0 : ℕ) (a1 : List Group) (a2 : ConForm) → constraint_offences p w scope (con.Forall a0 a1 a2) ≡ variables_offences p w a1 ++ constraint_offences p w (bind a1 scope) a2
  unfolding constraint_offences
  is-constraint-Forall a0 a1 a2 = ap (λ t. fold-ConForm (List Typed → List Offence) (constraint_layer p w) t scope) (sym (con.rolls-Forall a0 a1 a2)) ∙ ap (λ f. f scope) (fold-roll-ConForm (List Typed → List Offence) (constraint_layer p w) (ConForm-F.Forall a0 a1 a2))

  pub constraint-Forall : {tree : ConForm} {a0 : ℕ} {a1 : List Group} {a2 : ConForm} {gs : List Group} {vars : List Typed} {x : ConForm} {l m r : Option Offence} → tree ≡ con.Forall a0 a1 a2 → gs ≡ a1 → vars ≡ with_firsts [] (typed gs) → x ≡ a2 → l ≡ least (variables_offences p w gs) → m ≡ least (constraint_offences p w (vars ++ scope) x) → r ≡ earlier l m → r ≡ least (constraint_offences p w scope tree)
  constraint-Forall {tree} {a0} {a1} {a2} {gs} {vars} {x} {l} {m} {r} e f v b h k n = n ∙ least-both l m (variables_offences p w a1) (constraint_offences p w (bind a1 scope) a2) (h ∙ ap (λ t. least (variables_offences p w t)) f) (k ∙ ap (λ t. least (constraint_offences p w t x)) (ap (λ t. t ++ scope) v ∙ ap (λ t. bind t scope) f) ∙ ap (λ t. least (constraint_offences p w (bind a1 scope) t)) b) ∙ sym (ap (λ t. least (constraint_offences p w scope t)) e ∙ ap least (is-constraint-Forall a0 a1 a2))

  is-constraint-Hard : (a0 : Trajectory) → constraint_offences p w scope (con.Hard a0) ≡ trajectory_offences p w scope a0
  unfolding constraint_offences
  is-constraint-Hard a0 = ap (λ t. fold-ConForm (List Typed → List Offence) (constraint_layer p w) t scope) (sym (con.rolls-Hard a0)) ∙ ap (λ f. f scope) (fold-roll-ConForm (List Typed → List Offence) (constraint_layer p w) (ConForm-F.Hard a0))

  pub constraint-Hard : {tree : ConForm} {a0 : Trajectory} {r : Option Offence} → tree ≡ con.Hard a0 → r ≡ least (trajectory_offences p w scope a0) → r ≡ least (constraint_offences p w scope tree)
  constraint-Hard {tree} {a0} {r} e h = h ∙ sym (ap (λ t. least (constraint_offences p w scope t)) e ∙ ap least (is-constraint-Hard a0))

  is-constraint-Preference : (a0 : ℕ) (a1 : Option Name) (a2 : Trajectory) → constraint_offences p w scope (con.Preference a0 a1 a2) ≡ trajectory_offences p w scope a2
  unfolding constraint_offences
  is-constraint-Preference a0 a1 a2 = ap (λ t. fold-ConForm (List Typed → List Offence) (constraint_layer p w) t scope) (sym (con.rolls-Preference a0 a1 a2)) ∙ ap (λ f. f scope) (fold-roll-ConForm (List Typed → List Offence) (constraint_layer p w) (ConForm-F.Preference a0 a1 a2))

  pub constraint-Preference : {tree : ConForm} {a0 : ℕ} {a1 : Option Name} {a2 : Trajectory} {r : Option Offence} → tree ≡ con.Preference a0 a1 a2 → r ≡ least (trajectory_offences p w scope a2) → r ≡ least (constraint_offences p w scope tree)
  constraint-Preference {tree} {a0} {a1} {a2} {r} e h = h ∙ sym (ap (λ t. least (constraint_offences p w scope t)) e ∙ ap least (is-constraint-Preference a0 a1 a2))

-- effect_offences
module _ (p : Phase) (w : Tables) (scope : List Typed) where
  is-effect-Empty : (a0 : ℕ) → effect_offences p w scope (eff.Empty a0) ≡ []
  unfolding effect_offences
  is-effect-Empty a0 = ap (λ t. fold-EffTree (List Offence) (effect_layer p w scope) t) (sym (eff.rolls-Empty a0)) ∙ fold-roll-EffTree (List Offence) (effect_layer p w scope) (EffTree-F.Empty a0)

  pub effect-Empty : {tree : EffTree} {a0 : ℕ} → tree ≡ eff.Empty a0 → ◌≡◌ {A = Option Offence} None (least (effect_offences p w scope tree))
  effect-Empty {tree} {a0} e = sym (ap (λ t. least (effect_offences p w scope t)) e ∙ ap least (is-effect-Empty a0))

  is-effect-And : (a0 : ℕ) (a1 : List EffTree) → effect_offences p w scope (eff.And a0 a1) ≡ flat_map (effect_offences p w scope) a1
  unfolding effect_offences
  is-effect-And a0 a1 = ap (λ t. fold-EffTree (List Offence) (effect_layer p w scope) t) (sym (eff.rolls-And a0 a1)) ∙ fold-roll-EffTree (List Offence) (effect_layer p w scope) (EffTree-F.And a0 a1) ∙ flat_map-map (λ (part : List Offence). part) (fold-EffTree (List Offence) (effect_layer p w scope)) a1

  pub effect-And : {tree : EffTree} {a0 : ℕ} {a1 : List EffTree} {xs : List EffTree} {n : ℕ} {r : Option Offence} → tree ≡ eff.And a0 a1 → xs ≡ a1 → length xs ≤ n → r ≡ least (flat_map (effect_offences p w scope) (take n xs)) → r ≡ least (effect_offences p w scope tree)
  effect-And {tree} {a0} {a1} {xs} {n} {r} e f l h = h ∙ ap (λ t. least (flat_map (effect_offences p w scope) t)) (take_all n xs l ∙ f) ∙ sym (ap (λ t. least (effect_offences p w scope t)) e ∙ ap least (is-effect-And a0 a1))

  is-effect-Add : (a0 : Atom) → effect_offences p w scope (eff.Add a0) ≡ atom_offences p w scope a0
  unfolding effect_offences
  is-effect-Add a0 = ap (λ t. fold-EffTree (List Offence) (effect_layer p w scope) t) (sym (eff.rolls-Add a0)) ∙ fold-roll-EffTree (List Offence) (effect_layer p w scope) (EffTree-F.Add a0)

  pub effect-Add : {tree : EffTree} {a0 : Atom} {r : Option Offence} → tree ≡ eff.Add a0 → r ≡ least (atom_offences p w scope a0) → r ≡ least (effect_offences p w scope tree)
  effect-Add {tree} {a0} {r} e h = h ∙ sym (ap (λ t. least (effect_offences p w scope t)) e ∙ ap least (is-effect-Add a0))

  is-effect-Delete : (a0 : ℕ) (a1 : Call) → effect_offences p w scope (eff.Delete a0 a1) ≡ called_atom_offences p w scope a1
  unfolding effect_offences
  is-effect-Delete a0 a1 = ap (λ t. fold-EffTree (List Offence) (effect_layer p w scope) t) (sym (eff.rolls-Delete a0 a1)) ∙ fold-roll-EffTree (List Offence) (effect_layer p w scope) (EffTree-F.Delete a0 a1)

  pub effect-Delete : {tree : EffTree} {a0 : ℕ} {a1 : Call} {r : Option Offence} → tree ≡ eff.Delete a0 a1 → r ≡ least (called_atom_offences p w scope a1) → r ≡ least (effect_offences p w scope tree)
  effect-Delete {tree} {a0} {a1} {r} e h = h ∙ sym (ap (λ t. least (effect_offences p w scope t)) e ∙ ap least (is-effect-Delete a0 a1))

  is-effect-Change : (a0 : ℕ) (a1 : ChangeKind) (a2 : Call) (a3 : ExprTree) → effect_offences p w scope (eff.Change a0 a1 a2 a3) ≡ called_fluent_offences p w scope a2 ++ expression_offences p w scope a3
  unfolding effect_offences
  is-effect-Change a0 a1 a2 a3 = ap (λ t. fold-EffTree (List Offence) (effect_layer p w scope) t) (sym (eff.rolls-Change a0 a1 a2 a3)) ∙ fold-roll-EffTree (List Offence) (effect_layer p w scope) (EffTree-F.Change a0 a1 a2 a3)

  pub effect-Change : {tree : EffTree} {a0 : ℕ} {a1 : ChangeKind} {a2 : Call} {a3 : ExprTree} {l m r : Option Offence} → tree ≡ eff.Change a0 a1 a2 a3 → l ≡ least (called_fluent_offences p w scope a2) → m ≡ least (expression_offences p w scope a3) → r ≡ earlier l m → r ≡ least (effect_offences p w scope tree)
  effect-Change {tree} {a0} {a1} {a2} {a3} {l} {m} {r} e h k n = n ∙ least-both l m (called_fluent_offences p w scope a2) (expression_offences p w scope a3) h k ∙ sym (ap (λ t. least (effect_offences p w scope t)) e ∙ ap least (is-effect-Change a0 a1 a2 a3))

  is-effect-LeftOut : (a0 : ℕ) → effect_offences p w scope (eff.LeftOut a0) ≡ []
  unfolding effect_offences
  is-effect-LeftOut a0 = ap (λ t. fold-EffTree (List Offence) (effect_layer p w scope) t) (sym (eff.rolls-LeftOut a0)) ∙ fold-roll-EffTree (List Offence) (effect_layer p w scope) (EffTree-F.LeftOut a0)

  pub effect-LeftOut : {tree : EffTree} {a0 : ℕ} → tree ≡ eff.LeftOut a0 → ◌≡◌ {A = Option Offence} None (least (effect_offences p w scope tree))
  effect-LeftOut {tree} {a0} e = sym (ap (λ t. least (effect_offences p w scope t)) e ∙ ap least (is-effect-LeftOut a0))

-- timed_effect_offences
module _ (p : Phase) (w : Tables) (scope : List Typed) where
  is-timed_effect-Empty : (a0 : ℕ) → timed_effect_offences p w scope (teff.Empty a0) ≡ []
  unfolding timed_effect_offences
  is-timed_effect-Empty a0 = ap (λ t. fold-TimedEff (List Offence) (timed_effect_layer p w scope) t) (sym (teff.rolls-Empty a0)) ∙ fold-roll-TimedEff (List Offence) (timed_effect_layer p w scope) (TimedEff-F.Empty a0)

  pub timed_effect-Empty : {tree : TimedEff} {a0 : ℕ} → tree ≡ teff.Empty a0 → ◌≡◌ {A = Option Offence} None (least (timed_effect_offences p w scope tree))
  timed_effect-Empty {tree} {a0} e = sym (ap (λ t. least (timed_effect_offences p w scope t)) e ∙ ap least (is-timed_effect-Empty a0))

  is-timed_effect-And : (a0 : ℕ) (a1 : List TimedEff) → timed_effect_offences p w scope (teff.And a0 a1) ≡ flat_map (timed_effect_offences p w scope) a1
  unfolding timed_effect_offences
  is-timed_effect-And a0 a1 = ap (λ t. fold-TimedEff (List Offence) (timed_effect_layer p w scope) t) (sym (teff.rolls-And a0 a1)) ∙ fold-roll-TimedEff (List Offence) (timed_effect_layer p w scope) (TimedEff-F.And a0 a1) ∙ flat_map-map (λ (part : List Offence). part) (fold-TimedEff (List Offence) (timed_effect_layer p w scope)) a1

  pub timed_effect-And : {tree : TimedEff} {a0 : ℕ} {a1 : List TimedEff} {xs : List TimedEff} {n : ℕ} {r : Option Offence} → tree ≡ teff.And a0 a1 → xs ≡ a1 → length xs ≤ n → r ≡ least (flat_map (timed_effect_offences p w scope) (take n xs)) → r ≡ least (timed_effect_offences p w scope tree)
  timed_effect-And {tree} {a0} {a1} {xs} {n} {r} e f l h = h ∙ ap (λ t. least (flat_map (timed_effect_offences p w scope) t)) (take_all n xs l ∙ f) ∙ sym (ap (λ t. least (timed_effect_offences p w scope t)) e ∙ ap least (is-timed_effect-And a0 a1))

  is-timed_effect-AtStart : (a0 : ℕ) (a1 : EffTree) → timed_effect_offences p w scope (teff.AtStart a0 a1) ≡ effect_offences p w scope a1
  unfolding timed_effect_offences
  is-timed_effect-AtStart a0 a1 = ap (λ t. fold-TimedEff (List Offence) (timed_effect_layer p w scope) t) (sym (teff.rolls-AtStart a0 a1)) ∙ fold-roll-TimedEff (List Offence) (timed_effect_layer p w scope) (TimedEff-F.AtStart a0 a1)

  pub timed_effect-AtStart : {tree : TimedEff} {a0 : ℕ} {a1 : EffTree} {r : Option Offence} → tree ≡ teff.AtStart a0 a1 → r ≡ least (effect_offences p w scope a1) → r ≡ least (timed_effect_offences p w scope tree)
  timed_effect-AtStart {tree} {a0} {a1} {r} e h = h ∙ sym (ap (λ t. least (timed_effect_offences p w scope t)) e ∙ ap least (is-timed_effect-AtStart a0 a1))

  is-timed_effect-AtEnd : (a0 : ℕ) (a1 : EffTree) → timed_effect_offences p w scope (teff.AtEnd a0 a1) ≡ effect_offences p w scope a1
  unfolding timed_effect_offences
  is-timed_effect-AtEnd a0 a1 = ap (λ t. fold-TimedEff (List Offence) (timed_effect_layer p w scope) t) (sym (teff.rolls-AtEnd a0 a1)) ∙ fold-roll-TimedEff (List Offence) (timed_effect_layer p w scope) (TimedEff-F.AtEnd a0 a1)

  pub timed_effect-AtEnd : {tree : TimedEff} {a0 : ℕ} {a1 : EffTree} {r : Option Offence} → tree ≡ teff.AtEnd a0 a1 → r ≡ least (effect_offences p w scope a1) → r ≡ least (timed_effect_offences p w scope tree)
  timed_effect-AtEnd {tree} {a0} {a1} {r} e h = h ∙ sym (ap (λ t. least (timed_effect_offences p w scope t)) e ∙ ap least (is-timed_effect-AtEnd a0 a1))

  is-timed_effect-Rate : (a0 : ℕ) (a1 : Trend) (a2 : Call) (a3 : RateTree) → timed_effect_offences p w scope (teff.Rate a0 a1 a2 a3) ≡ called_fluent_offences p w scope a2 ++ rate_offences p w scope a3
  unfolding timed_effect_offences
  is-timed_effect-Rate a0 a1 a2 a3 = ap (λ t. fold-TimedEff (List Offence) (timed_effect_layer p w scope) t) (sym (teff.rolls-Rate a0 a1 a2 a3)) ∙ fold-roll-TimedEff (List Offence) (timed_effect_layer p w scope) (TimedEff-F.Rate a0 a1 a2 a3)

  pub timed_effect-Rate : {tree : TimedEff} {a0 : ℕ} {a1 : Trend} {a2 : Call} {a3 : RateTree} {l m r : Option Offence} → tree ≡ teff.Rate a0 a1 a2 a3 → l ≡ least (called_fluent_offences p w scope a2) → m ≡ least (rate_offences p w scope a3) → r ≡ earlier l m → r ≡ least (timed_effect_offences p w scope tree)
  timed_effect-Rate {tree} {a0} {a1} {a2} {a3} {l} {m} {r} e h k n = n ∙ least-both l m (called_fluent_offences p w scope a2) (rate_offences p w scope a3) h k ∙ sym (ap (λ t. least (timed_effect_offences p w scope t)) e ∙ ap least (is-timed_effect-Rate a0 a1 a2 a3))

  is-timed_effect-LeftOut : (a0 : ℕ) → timed_effect_offences p w scope (teff.LeftOut a0) ≡ []
  unfolding timed_effect_offences
  is-timed_effect-LeftOut a0 = ap (λ t. fold-TimedEff (List Offence) (timed_effect_layer p w scope) t) (sym (teff.rolls-LeftOut a0)) ∙ fold-roll-TimedEff (List Offence) (timed_effect_layer p w scope) (TimedEff-F.LeftOut a0)

  pub timed_effect-LeftOut : {tree : TimedEff} {a0 : ℕ} → tree ≡ teff.LeftOut a0 → ◌≡◌ {A = Option Offence} None (least (timed_effect_offences p w scope tree))
  timed_effect-LeftOut {tree} {a0} e = sym (ap (λ t. least (timed_effect_offences p w scope t)) e ∙ ap least (is-timed_effect-LeftOut a0))

-- timed_condition_offences
module _ (p : Phase) (w : Tables) (scope : List Typed) where
  is-timed_condition-Empty : (a0 : ℕ) → timed_condition_offences p w scope (tcond.Empty a0) ≡ []
  unfolding timed_condition_offences
  is-timed_condition-Empty a0 = ap (λ t. fold-TimedCond (List Offence) (timed_condition_layer p w scope) t) (sym (tcond.rolls-Empty a0)) ∙ fold-roll-TimedCond (List Offence) (timed_condition_layer p w scope) (TimedCond-F.Empty a0)

  pub timed_condition-Empty : {tree : TimedCond} {a0 : ℕ} → tree ≡ tcond.Empty a0 → ◌≡◌ {A = Option Offence} None (least (timed_condition_offences p w scope tree))
  timed_condition-Empty {tree} {a0} e = sym (ap (λ t. least (timed_condition_offences p w scope t)) e ∙ ap least (is-timed_condition-Empty a0))

  is-timed_condition-And : (a0 : ℕ) (a1 : List TimedCond) → timed_condition_offences p w scope (tcond.And a0 a1) ≡ flat_map (timed_condition_offences p w scope) a1
  unfolding timed_condition_offences
  is-timed_condition-And a0 a1 = ap (λ t. fold-TimedCond (List Offence) (timed_condition_layer p w scope) t) (sym (tcond.rolls-And a0 a1)) ∙ fold-roll-TimedCond (List Offence) (timed_condition_layer p w scope) (TimedCond-F.And a0 a1) ∙ flat_map-map (λ (part : List Offence). part) (fold-TimedCond (List Offence) (timed_condition_layer p w scope)) a1

  pub timed_condition-And : {tree : TimedCond} {a0 : ℕ} {a1 : List TimedCond} {xs : List TimedCond} {n : ℕ} {r : Option Offence} → tree ≡ tcond.And a0 a1 → xs ≡ a1 → length xs ≤ n → r ≡ least (flat_map (timed_condition_offences p w scope) (take n xs)) → r ≡ least (timed_condition_offences p w scope tree)
  timed_condition-And {tree} {a0} {a1} {xs} {n} {r} e f l h = h ∙ ap (λ t. least (flat_map (timed_condition_offences p w scope) t)) (take_all n xs l ∙ f) ∙ sym (ap (λ t. least (timed_condition_offences p w scope t)) e ∙ ap least (is-timed_condition-And a0 a1))

  is-timed_condition-AtStart : (a0 : ℕ) (a1 : CondTree) → timed_condition_offences p w scope (tcond.AtStart a0 a1) ≡ condition_offences p w scope a1
  unfolding timed_condition_offences
  is-timed_condition-AtStart a0 a1 = ap (λ t. fold-TimedCond (List Offence) (timed_condition_layer p w scope) t) (sym (tcond.rolls-AtStart a0 a1)) ∙ fold-roll-TimedCond (List Offence) (timed_condition_layer p w scope) (TimedCond-F.AtStart a0 a1)

  pub timed_condition-AtStart : {tree : TimedCond} {a0 : ℕ} {a1 : CondTree} {r : Option Offence} → tree ≡ tcond.AtStart a0 a1 → r ≡ least (condition_offences p w scope a1) → r ≡ least (timed_condition_offences p w scope tree)
  timed_condition-AtStart {tree} {a0} {a1} {r} e h = h ∙ sym (ap (λ t. least (timed_condition_offences p w scope t)) e ∙ ap least (is-timed_condition-AtStart a0 a1))

  is-timed_condition-OverAll : (a0 : ℕ) (a1 : CondTree) → timed_condition_offences p w scope (tcond.OverAll a0 a1) ≡ condition_offences p w scope a1
  unfolding timed_condition_offences
  is-timed_condition-OverAll a0 a1 = ap (λ t. fold-TimedCond (List Offence) (timed_condition_layer p w scope) t) (sym (tcond.rolls-OverAll a0 a1)) ∙ fold-roll-TimedCond (List Offence) (timed_condition_layer p w scope) (TimedCond-F.OverAll a0 a1)

  pub timed_condition-OverAll : {tree : TimedCond} {a0 : ℕ} {a1 : CondTree} {r : Option Offence} → tree ≡ tcond.OverAll a0 a1 → r ≡ least (condition_offences p w scope a1) → r ≡ least (timed_condition_offences p w scope tree)
  timed_condition-OverAll {tree} {a0} {a1} {r} e h = h ∙ sym (ap (λ t. least (timed_condition_offences p w scope t)) e ∙ ap least (is-timed_condition-OverAll a0 a1))

  is-timed_condition-AtEnd : (a0 : ℕ) (a1 : CondTree) → timed_condition_offences p w scope (tcond.AtEnd a0 a1) ≡ condition_offences p w scope a1
  unfolding timed_condition_offences
  is-timed_condition-AtEnd a0 a1 = ap (λ t. fold-TimedCond (List Offence) (timed_condition_layer p w scope) t) (sym (tcond.rolls-AtEnd a0 a1)) ∙ fold-roll-TimedCond (List Offence) (timed_condition_layer p w scope) (TimedCond-F.AtEnd a0 a1)

  pub timed_condition-AtEnd : {tree : TimedCond} {a0 : ℕ} {a1 : CondTree} {r : Option Offence} → tree ≡ tcond.AtEnd a0 a1 → r ≡ least (condition_offences p w scope a1) → r ≡ least (timed_condition_offences p w scope tree)
  timed_condition-AtEnd {tree} {a0} {a1} {r} e h = h ∙ sym (ap (λ t. least (timed_condition_offences p w scope t)) e ∙ ap least (is-timed_condition-AtEnd a0 a1))

  is-timed_condition-LeftOut : (a0 : ℕ) → timed_condition_offences p w scope (tcond.LeftOut a0) ≡ []
  unfolding timed_condition_offences
  is-timed_condition-LeftOut a0 = ap (λ t. fold-TimedCond (List Offence) (timed_condition_layer p w scope) t) (sym (tcond.rolls-LeftOut a0)) ∙ fold-roll-TimedCond (List Offence) (timed_condition_layer p w scope) (TimedCond-F.LeftOut a0)

  pub timed_condition-LeftOut : {tree : TimedCond} {a0 : ℕ} → tree ≡ tcond.LeftOut a0 → ◌≡◌ {A = Option Offence} None (least (timed_condition_offences p w scope tree))
  timed_condition-LeftOut {tree} {a0} e = sym (ap (λ t. least (timed_condition_offences p w scope t)) e ∙ ap least (is-timed_condition-LeftOut a0))

-- soft_offences
module _ (p : Phase) (w : Tables) (scope : List Typed) where
  is-soft-Formula : (a0 : FactForm) → soft_offences p w scope (soft.Formula a0) ≡ formula_offences p w scope a0
  unfolding soft_offences
  is-soft-Formula a0 = ap (λ t. fold-SoftTree (List Offence) (soft_layer p w scope) t) (sym (soft.rolls-Formula a0)) ∙ fold-roll-SoftTree (List Offence) (soft_layer p w scope) (SoftTree-F.Formula a0)

  pub soft-Formula : {tree : SoftTree} {a0 : FactForm} {r : Option Offence} → tree ≡ soft.Formula a0 → r ≡ least (formula_offences p w scope a0) → r ≡ least (soft_offences p w scope tree)
  soft-Formula {tree} {a0} {r} e h = h ∙ sym (ap (λ t. least (soft_offences p w scope t)) e ∙ ap least (is-soft-Formula a0))

  is-soft-Equal : (a0 : ℕ) (a1 : Side) (a2 : Side) → soft_offences p w scope (soft.Equal a0 a1 a2) ≡ equal_offences p w scope a1 a2
  unfolding soft_offences
  is-soft-Equal a0 a1 a2 = ap (λ t. fold-SoftTree (List Offence) (soft_layer p w scope) t) (sym (soft.rolls-Equal a0 a1 a2)) ∙ fold-roll-SoftTree (List Offence) (soft_layer p w scope) (SoftTree-F.Equal a0 a1 a2)

  pub soft-Equal : {tree : SoftTree} {a0 : ℕ} {a1 : Side} {a2 : Side} {r : Option Offence} → tree ≡ soft.Equal a0 a1 a2 → r ≡ least (equal_offences p w scope a1 a2) → r ≡ least (soft_offences p w scope tree)
  soft-Equal {tree} {a0} {a1} {a2} {r} e h = h ∙ sym (ap (λ t. least (soft_offences p w scope t)) e ∙ ap least (is-soft-Equal a0 a1 a2))

  is-soft-Comparison : (a0 : CondTree) → soft_offences p w scope (soft.Comparison a0) ≡ condition_offences p w scope a0
  unfolding soft_offences
  is-soft-Comparison a0 = ap (λ t. fold-SoftTree (List Offence) (soft_layer p w scope) t) (sym (soft.rolls-Comparison a0)) ∙ fold-roll-SoftTree (List Offence) (soft_layer p w scope) (SoftTree-F.Comparison a0)

  pub soft-Comparison : {tree : SoftTree} {a0 : CondTree} {r : Option Offence} → tree ≡ soft.Comparison a0 → r ≡ least (condition_offences p w scope a0) → r ≡ least (soft_offences p w scope tree)
  soft-Comparison {tree} {a0} {r} e h = h ∙ sym (ap (λ t. least (soft_offences p w scope t)) e ∙ ap least (is-soft-Comparison a0))

  is-soft-And : (a0 : ℕ) (a1 : List SoftTree) → soft_offences p w scope (soft.And a0 a1) ≡ flat_map (soft_offences p w scope) a1
  unfolding soft_offences
  is-soft-And a0 a1 = ap (λ t. fold-SoftTree (List Offence) (soft_layer p w scope) t) (sym (soft.rolls-And a0 a1)) ∙ fold-roll-SoftTree (List Offence) (soft_layer p w scope) (SoftTree-F.And a0 a1) ∙ flat_map-map (λ (part : List Offence). part) (fold-SoftTree (List Offence) (soft_layer p w scope)) a1

  pub soft-And : {tree : SoftTree} {a0 : ℕ} {a1 : List SoftTree} {xs : List SoftTree} {n : ℕ} {r : Option Offence} → tree ≡ soft.And a0 a1 → xs ≡ a1 → length xs ≤ n → r ≡ least (flat_map (soft_offences p w scope) (take n xs)) → r ≡ least (soft_offences p w scope tree)
  soft-And {tree} {a0} {a1} {xs} {n} {r} e f l h = h ∙ ap (λ t. least (flat_map (soft_offences p w scope) t)) (take_all n xs l ∙ f) ∙ sym (ap (λ t. least (soft_offences p w scope t)) e ∙ ap least (is-soft-And a0 a1))

-- goal_offences
module _ (p : Phase) (w : Tables) (scope : List Typed) where
  is-goal-Condition : (a0 : CondTree) → goal_offences p w scope (goal.Condition a0) ≡ condition_offences p w scope a0
  unfolding goal_offences
  is-goal-Condition a0 = ap (λ t. fold-GoalTree (List Typed → List Offence) (goal_layer p w) t scope) (sym (goal.rolls-Condition a0)) ∙ ap (λ f. f scope) (fold-roll-GoalTree (List Typed → List Offence) (goal_layer p w) (GoalTree-F.Condition a0))

  pub goal-Condition : {tree : GoalTree} {a0 : CondTree} {r : Option Offence} → tree ≡ goal.Condition a0 → r ≡ least (condition_offences p w scope a0) → r ≡ least (goal_offences p w scope tree)
  goal-Condition {tree} {a0} {r} e h = h ∙ sym (ap (λ t. least (goal_offences p w scope t)) e ∙ ap least (is-goal-Condition a0))

  is-goal-And : (a0 : ℕ) (a1 : List GoalTree) → goal_offences p w scope (goal.And a0 a1) ≡ flat_map (goal_offences p w scope) a1
  unfolding goal_offences
  is-goal-And a0 a1 = ap (λ t. fold-GoalTree (List Typed → List Offence) (goal_layer p w) t scope) (sym (goal.rolls-And a0 a1)) ∙ ap (λ f. f scope) (fold-roll-GoalTree (List Typed → List Offence) (goal_layer p w) (GoalTree-F.And a0 a1)) ∙ flat_map-map (λ (part : List Typed → List Offence). part scope) (fold-GoalTree (List Typed → List Offence) (goal_layer p w)) a1

  pub goal-And : {tree : GoalTree} {a0 : ℕ} {a1 : List GoalTree} {xs : List GoalTree} {n : ℕ} {r : Option Offence} → tree ≡ goal.And a0 a1 → xs ≡ a1 → length xs ≤ n → r ≡ least (flat_map (goal_offences p w scope) (take n xs)) → r ≡ least (goal_offences p w scope tree)
  goal-And {tree} {a0} {a1} {xs} {n} {r} e f l h = h ∙ ap (λ t. least (flat_map (goal_offences p w scope) t)) (take_all n xs l ∙ f) ∙ sym (ap (λ t. least (goal_offences p w scope t)) e ∙ ap least (is-goal-And a0 a1))

  is-goal-Forall : (a0 : ℕ) (a1 : List Group) (a2 : GoalTree) → goal_offences p w scope (goal.Forall a0 a1 a2) ≡ variables_offences p w a1 ++ goal_offences p w (bind a1 scope) a2
  unfolding goal_offences
  is-goal-Forall a0 a1 a2 = ap (λ t. fold-GoalTree (List Typed → List Offence) (goal_layer p w) t scope) (sym (goal.rolls-Forall a0 a1 a2)) ∙ ap (λ f. f scope) (fold-roll-GoalTree (List Typed → List Offence) (goal_layer p w) (GoalTree-F.Forall a0 a1 a2))

  pub goal-Forall : {tree : GoalTree} {a0 : ℕ} {a1 : List Group} {a2 : GoalTree} {gs : List Group} {vars : List Typed} {x : GoalTree} {l m r : Option Offence} → tree ≡ goal.Forall a0 a1 a2 → gs ≡ a1 → vars ≡ with_firsts [] (typed gs) → x ≡ a2 → l ≡ least (variables_offences p w gs) → m ≡ least (goal_offences p w (vars ++ scope) x) → r ≡ earlier l m → r ≡ least (goal_offences p w scope tree)
  goal-Forall {tree} {a0} {a1} {a2} {gs} {vars} {x} {l} {m} {r} e f v b h k n = n ∙ least-both l m (variables_offences p w a1) (goal_offences p w (bind a1 scope) a2) (h ∙ ap (λ t. least (variables_offences p w t)) f) (k ∙ ap (λ t. least (goal_offences p w t x)) (ap (λ t. t ++ scope) v ∙ ap (λ t. bind t scope) f) ∙ ap (λ t. least (goal_offences p w (bind a1 scope) t)) b) ∙ sym (ap (λ t. least (goal_offences p w scope t)) e ∙ ap least (is-goal-Forall a0 a1 a2))

  is-goal-Preference : (a0 : ℕ) (a1 : Option Name) (a2 : SoftTree) → goal_offences p w scope (goal.Preference a0 a1 a2) ≡ soft_offences p w scope a2
  unfolding goal_offences
  is-goal-Preference a0 a1 a2 = ap (λ t. fold-GoalTree (List Typed → List Offence) (goal_layer p w) t scope) (sym (goal.rolls-Preference a0 a1 a2)) ∙ ap (λ f. f scope) (fold-roll-GoalTree (List Typed → List Offence) (goal_layer p w) (GoalTree-F.Preference a0 a1 a2))

  pub goal-Preference : {tree : GoalTree} {a0 : ℕ} {a1 : Option Name} {a2 : SoftTree} {r : Option Offence} → tree ≡ goal.Preference a0 a1 a2 → r ≡ least (soft_offences p w scope a2) → r ≡ least (goal_offences p w scope tree)
  goal-Preference {tree} {a0} {a1} {a2} {r} e h = h ∙ sym (ap (λ t. least (goal_offences p w scope t)) e ∙ ap least (is-goal-Preference a0 a1 a2))
