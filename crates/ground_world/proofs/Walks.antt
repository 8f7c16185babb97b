-- What each walk over a tree comes to at each variant: one step of its fold.
use Rattle.std.proofs.Common.{◌≡◌, sym, ap, ◌∙◌, ℕ, List, map, Bool, Option}
use Rattle.rational.specs.Rational.{ℚ}
use Rattle.pddl_terms.specs.declared.trees.EffTree.{EffTree, fold-EffTree, fold-roll-EffTree}
use Rattle.pddl_terms.specs.declared.trees.EffTree.TheOpen.{EffTree-F}
use Rattle.pddl_terms.specs.declared.trees.EffTree.TheVariants as eff
use Rattle.pddl_terms.specs.declared.trees.TimedEff.{TimedEff, fold-TimedEff, fold-roll-TimedEff}
use Rattle.pddl_terms.specs.declared.trees.TimedEff.TheOpen.{TimedEff-F}
use Rattle.pddl_terms.specs.declared.trees.TimedEff.TheVariants as teff
use Rattle.pddl_terms.specs.declared.trees.CondTree.{CondTree, fold-CondTree, fold-roll-CondTree}
use Rattle.pddl_terms.specs.declared.trees.CondTree.TheOpen.{CondTree-F}
use Rattle.pddl_terms.specs.declared.trees.CondTree.TheVariants as cond
use Rattle.pddl_terms.specs.declared.trees.TimedCond.{TimedCond, fold-TimedCond, fold-roll-TimedCond}
use Rattle.pddl_terms.specs.declared.trees.TimedCond.TheOpen.{TimedCond-F}
use Rattle.pddl_terms.specs.declared.trees.TimedCond.TheVariants as tcond
use Rattle.pddl_terms.specs.declared.trees.DurTree.{DurTree, fold-DurTree, fold-roll-DurTree}
use Rattle.pddl_terms.specs.declared.trees.DurTree.TheOpen.{DurTree-F}
use Rattle.pddl_terms.specs.declared.trees.DurTree.TheVariants as dur
use Rattle.pddl_terms.specs.declared.trees.ExprTree.{ExprTree, fold-ExprTree, fold-roll-ExprTree}
use Rattle.pddl_terms.specs.declared.trees.ExprTree.TheOpen.{ExprTree-F}
use Rattle.pddl_terms.specs.declared.trees.ExprTree.TheVariants as expr
use Rattle.pddl_terms.specs.declared.trees.GoalTree.{GoalTree, fold-GoalTree, fold-roll-GoalTree}
use Rattle.pddl_terms.specs.declared.trees.GoalTree.TheOpen.{GoalTree-F}
use Rattle.pddl_terms.specs.declared.trees.GoalTree.TheVariants as goal
use Rattle.pddl_terms.specs.declared.trees.ConForm.{ConForm, fold-ConForm, fold-roll-ConForm}
use Rattle.pddl_terms.specs.declared.trees.ConForm.TheOpen.{ConForm-F}
use Rattle.pddl_terms.specs.declared.trees.ConForm.TheVariants as con
use Rattle.pddl_terms.specs.declared.trees.FactForm.{FactForm, fold-FactForm, fold-roll-FactForm}
use Rattle.pddl_terms.specs.declared.trees.FactForm.TheOpen.{FactForm-F}
use Rattle.pddl_terms.specs.declared.trees.FactForm.TheVariants as form
use Rattle.pddl_terms.specs.declared.trees.SoftTree.{SoftTree, fold-SoftTree, fold-roll-SoftTree}
use Rattle.pddl_terms.specs.declared.trees.SoftTree.TheOpen.{SoftTree-F}
use Rattle.pddl_terms.specs.declared.trees.SoftTree.TheVariants as soft
use Rattle.pddl_terms.specs.declared.trees.Name.{Name}
use Rattle.pddl_terms.specs.declared.trees.Atom.{Atom}
use Rattle.pddl_terms.specs.declared.trees.Group.{Group}
use Rattle.pddl_terms.specs.declared.trees.Comparison.{Comparison}
use Rattle.pddl_terms.specs.declared.trees.Side.{Side}
use Rattle.pddl_terms.specs.declared.trees.Trajectory.{Trajectory}
use Rattle.pddl_terms.specs.declared.trees.Call.{Call}
use Rattle.pddl_terms.specs.declared.trees.ChangeKind.{ChangeKind}
use Rattle.pddl_terms.specs.declared.trees.Trend.{Trend}
use Rattle.pddl_terms.specs.declared.trees.RateTree.{RateTree}
use Rattle.ground_world.specs.Changes.{Change, Staged, effect_layer, effect_parts, timed_effect_layer, timed_effect_parts}
use Rattle.ground_world.specs.Conditions.{DurationBound, Part, condition_layer, condition_parts, duration_bounds, duration_layer, timed_condition_layer, timed_condition_parts}
use Rattle.ground_world.specs.Counts.{condition_count, condition_count_layer, formula_count, formula_count_layer, goal_count_layer, hard_count, soft_count, soft_count_layer, timed_count, timed_count_layer}
use Rattle.ground_world.specs.Exact.{exact, exact_layer}
use Rattle.ground_world.specs.Expressions.{Reckoned, Unknowns, mentioned, mentioned_layer, reckoned, reckoned_layer}
use Rattle.ground_world.specs.Leaves.{Leaf, Named, constraint_layer, constraint_leaves, goal_preferences, preference_layer}
use Rattle.ground_world.specs.World.{Env, GroundAtom, World}
use Rattle.pddl_names.specs.Declarations.{Text}

-- effect_parts
module _ where
  pub effect_parts-Empty : (a : ℕ) → effect_parts (eff.Empty a)
      ≡ effect_layer (EffTree-F.Empty a)
  unfolding effect_parts
  effect_parts-Empty a = ap (λ t. fold-EffTree (List Change) effect_layer t) (sym (eff.rolls-Empty a))
      ∙ fold-roll-EffTree (List Change) effect_layer (EffTree-F.Empty a)

  pub effect_parts-And : (a : ℕ) (b : List EffTree) → effect_parts (eff.And a b)
      ≡ effect_layer (EffTree-F.And a (map (λ c. effect_parts c) b))
  unfolding effect_parts
  effect_parts-And a b = ap (λ t. fold-EffTree (List Change) effect_layer t) (sym (eff.rolls-And a b))
      ∙ fold-roll-EffTree (List Change) effect_layer (EffTree-F.And a b)

  pub effect_parts-Add : (a : Atom) → effect_parts (eff.Add a)
      ≡ effect_layer (EffTree-F.Add a)
  unfolding effect_parts
  effect_parts-Add a = ap (λ t. fold-EffTree (List Change) effect_layer t) (sym (eff.rolls-Add a))
      ∙ fold-roll-EffTree (List Change) effect_layer (EffTree-F.Add a)

  pub effect_parts-Delete : (a : ℕ) (b : Call) → effect_parts (eff.Delete a b)
      ≡ effect_layer (EffTree-F.Delete a b)
  unfolding effect_parts
  effect_parts-Delete a b = ap (λ t. fold-EffTree (List Change) effect_layer t) (sym (eff.rolls-Delete a b))
      ∙ fold-roll-EffTree (List Change) effect_layer (EffTree-F.Delete a b)

  pub effect_parts-Change : (a : ℕ) (b : ChangeKind) (c : Call) (d : ExprTree) → effect_parts (eff.Change a b c d)
      ≡ effect_layer (EffTree-F.Change a b c d)
  unfolding effect_parts
  effect_parts-Change a b c d = ap (λ t. fold-EffTree (List Change) effect_layer t) (sym (eff.rolls-Change a b c d))
      ∙ fold-roll-EffTree (List Change) effect_layer (EffTree-F.Change a b c d)

  pub effect_parts-LeftOut : (a : ℕ) → effect_parts (eff.LeftOut a)
      ≡ effect_layer (EffTree-F.LeftOut a)
  unfolding effect_parts
  effect_parts-LeftOut a = ap (λ t. fold-EffTree (List Change) effect_layer t) (sym (eff.rolls-LeftOut a))
      ∙ fold-roll-EffTree (List Change) effect_layer (EffTree-F.LeftOut a)

-- timed_effect_parts
module _ where
  pub timed_effect_parts-Empty : (a : ℕ) → timed_effect_parts (teff.Empty a)
      ≡ timed_effect_layer (TimedEff-F.Empty a)
  unfolding timed_effect_parts
  timed_effect_parts-Empty a = ap (λ t. fold-TimedEff (List (Staged Change)) timed_effect_layer t) (sym (teff.rolls-Empty a))
      ∙ fold-roll-TimedEff (List (Staged Change)) timed_effect_layer (TimedEff-F.Empty a)

  pub timed_effect_parts-And : (a : ℕ) (b : List TimedEff) → timed_effect_parts (teff.And a b)
      ≡ timed_effect_layer (TimedEff-F.And a (map (λ c. timed_effect_parts c) b))
  unfolding timed_effect_parts
  timed_effect_parts-And a b = ap (λ t. fold-TimedEff (List (Staged Change)) timed_effect_layer t) (sym (teff.rolls-And a b))
      ∙ fold-roll-TimedEff (List (Staged Change)) timed_effect_layer (TimedEff-F.And a b)

  pub timed_effect_parts-AtStart : (a : ℕ) (b : EffTree) → timed_effect_parts (teff.AtStart a b)
      ≡ timed_effect_layer (TimedEff-F.AtStart a b)
  unfolding timed_effect_parts
  timed_effect_parts-AtStart a b = ap (λ t. fold-TimedEff (List (Staged Change)) timed_effect_layer t) (sym (teff.rolls-AtStart a b))
      ∙ fold-roll-TimedEff (List (Staged Change)) timed_effect_layer (TimedEff-F.AtStart a b)

  pub timed_effect_parts-AtEnd : (a : ℕ) (b : EffTree) → timed_effect_parts (teff.AtEnd a b)
      ≡ timed_effect_layer (TimedEff-F.AtEnd a b)
  unfolding timed_effect_parts
  timed_effect_parts-AtEnd a b = ap (λ t. fold-TimedEff (List (Staged Change)) timed_effect_layer t) (sym (teff.rolls-AtEnd a b))
      ∙ fold-roll-TimedEff (List (Staged Change)) timed_effect_layer (TimedEff-F.AtEnd a b)

  pub timed_effect_parts-Rate : (a : ℕ) (b : Trend) (c : Call) (d : RateTree) → timed_effect_parts (teff.Rate a b c d)
      ≡ timed_effect_layer (TimedEff-F.Rate a b c d)
  unfolding timed_effect_parts
  timed_effect_parts-Rate a b c d = ap (λ t. fold-TimedEff (List (Staged Change)) timed_effect_layer t) (sym (teff.rolls-Rate a b c d))
      ∙ fold-roll-TimedEff (List (Staged Change)) timed_effect_layer (TimedEff-F.Rate a b c d)

  pub timed_effect_parts-LeftOut : (a : ℕ) → timed_effect_parts (teff.LeftOut a)
      ≡ timed_effect_layer (TimedEff-F.LeftOut a)
  unfolding timed_effect_parts
  timed_effect_parts-LeftOut a = ap (λ t. fold-TimedEff (List (Staged Change)) timed_effect_layer t) (sym (teff.rolls-LeftOut a))
      ∙ fold-roll-TimedEff (List (Staged Change)) timed_effect_layer (TimedEff-F.LeftOut a)

-- condition_parts
module _ (w : World) (env : Env) where
  pub condition_parts-Empty : (a : ℕ) → condition_parts w env (cond.Empty a)
      ≡ condition_layer w (CondTree-F.Empty a) env
  unfolding condition_parts
  condition_parts-Empty a = ap (λ t. fold-CondTree (Env → List Part) (condition_layer w) t env) (sym (cond.rolls-Empty a))
      ∙ ap (λ f. f env) (fold-roll-CondTree (Env → List Part) (condition_layer w) (CondTree-F.Empty a))

  pub condition_parts-And : (a : ℕ) (b : List CondTree) → condition_parts w env (cond.And a b)
      ≡ condition_layer w (CondTree-F.And a (map (λ c env. condition_parts w env c) b)) env
  unfolding condition_parts
  condition_parts-And a b = ap (λ t. fold-CondTree (Env → List Part) (condition_layer w) t env) (sym (cond.rolls-And a b))
      ∙ ap (λ f. f env) (fold-roll-CondTree (Env → List Part) (condition_layer w) (CondTree-F.And a b))

  pub condition_parts-Forall : (a : ℕ) (b : List Group) (c : CondTree) → condition_parts w env (cond.Forall a b c)
      ≡ condition_layer w (CondTree-F.Forall a b (λ env. condition_parts w env c)) env
  unfolding condition_parts
  condition_parts-Forall a b c = ap (λ t. fold-CondTree (Env → List Part) (condition_layer w) t env) (sym (cond.rolls-Forall a b c))
      ∙ ap (λ f. f env) (fold-roll-CondTree (Env → List Part) (condition_layer w) (CondTree-F.Forall a b c))

  pub condition_parts-Atom : (a : Atom) → condition_parts w env (cond.Atom a)
      ≡ condition_layer w (CondTree-F.Atom a) env
  unfolding condition_parts
  condition_parts-Atom a = ap (λ t. fold-CondTree (Env → List Part) (condition_layer w) t env) (sym (cond.rolls-Atom a))
      ∙ ap (λ f. f env) (fold-roll-CondTree (Env → List Part) (condition_layer w) (CondTree-F.Atom a))

  pub condition_parts-Not : (a : ℕ) (b : CondTree) → condition_parts w env (cond.Not a b)
      ≡ condition_layer w (CondTree-F.Not a (λ env. condition_parts w env b)) env
  unfolding condition_parts
  condition_parts-Not a b = ap (λ t. fold-CondTree (Env → List Part) (condition_layer w) t env) (sym (cond.rolls-Not a b))
      ∙ ap (λ f. f env) (fold-roll-CondTree (Env → List Part) (condition_layer w) (CondTree-F.Not a b))

  pub condition_parts-Equal : (a : ℕ) (b : Side) (c : Side) → condition_parts w env (cond.Equal a b c)
      ≡ condition_layer w (CondTree-F.Equal a b c) env
  unfolding condition_parts
  condition_parts-Equal a b c = ap (λ t. fold-CondTree (Env → List Part) (condition_layer w) t env) (sym (cond.rolls-Equal a b c))
      ∙ ap (λ f. f env) (fold-roll-CondTree (Env → List Part) (condition_layer w) (CondTree-F.Equal a b c))

  pub condition_parts-Compare : (a : ℕ) (b : Comparison) (c : ExprTree) (d : ExprTree) → condition_parts w env (cond.Compare a b c d)
      ≡ condition_layer w (CondTree-F.Compare a b c d) env
  unfolding condition_parts
  condition_parts-Compare a b c d = ap (λ t. fold-CondTree (Env → List Part) (condition_layer w) t env) (sym (cond.rolls-Compare a b c d))
      ∙ ap (λ f. f env) (fold-roll-CondTree (Env → List Part) (condition_layer w) (CondTree-F.Compare a b c d))

  pub condition_parts-LeftOut : (a : ℕ) → condition_parts w env (cond.LeftOut a)
      ≡ condition_layer w (CondTree-F.LeftOut a) env
  unfolding condition_parts
  condition_parts-LeftOut a = ap (λ t. fold-CondTree (Env → List Part) (condition_layer w) t env) (sym (cond.rolls-LeftOut a))
      ∙ ap (λ f. f env) (fold-roll-CondTree (Env → List Part) (condition_layer w) (CondTree-F.LeftOut a))

-- timed_condition_parts
module _ (w : World) (env : Env) where
  pub timed_condition_parts-Empty : (a : ℕ) → timed_condition_parts w env (tcond.Empty a)
      ≡ timed_condition_layer w env (TimedCond-F.Empty a)
  unfolding timed_condition_parts
  timed_condition_parts-Empty a = ap (λ t. fold-TimedCond (List (Staged Part)) (timed_condition_layer w env) t) (sym (tcond.rolls-Empty a))
      ∙ fold-roll-TimedCond (List (Staged Part)) (timed_condition_layer w env) (TimedCond-F.Empty a)

  pub timed_condition_parts-And : (a : ℕ) (b : List TimedCond) → timed_condition_parts w env (tcond.And a b)
      ≡ timed_condition_layer w env (TimedCond-F.And a (map (λ c. timed_condition_parts w env c) b))
  unfolding timed_condition_parts
  timed_condition_parts-And a b = ap (λ t. fold-TimedCond (List (Staged Part)) (timed_condition_layer w env) t) (sym (tcond.rolls-And a b))
      ∙ fold-roll-TimedCond (List (Staged Part)) (timed_condition_layer w env) (TimedCond-F.And a b)

  pub timed_condition_parts-AtStart : (a : ℕ) (b : CondTree) → timed_condition_parts w env (tcond.AtStart a b)
      ≡ timed_condition_layer w env (TimedCond-F.AtStart a b)
  unfolding timed_condition_parts
  timed_condition_parts-AtStart a b = ap (λ t. fold-TimedCond (List (Staged Part)) (timed_condition_layer w env) t) (sym (tcond.rolls-AtStart a b))
      ∙ fold-roll-TimedCond (List (Staged Part)) (timed_condition_layer w env) (TimedCond-F.AtStart a b)

  pub timed_condition_parts-OverAll : (a : ℕ) (b : CondTree) → timed_condition_parts w env (tcond.OverAll a b)
      ≡ timed_condition_layer w env (TimedCond-F.OverAll a b)
  unfolding timed_condition_parts
  timed_condition_parts-OverAll a b = ap (λ t. fold-TimedCond (List (Staged Part)) (timed_condition_layer w env) t) (sym (tcond.rolls-OverAll a b))
      ∙ fold-roll-TimedCond (List (Staged Part)) (timed_condition_layer w env) (TimedCond-F.OverAll a b)

  pub timed_condition_parts-AtEnd : (a : ℕ) (b : CondTree) → timed_condition_parts w env (tcond.AtEnd a b)
      ≡ timed_condition_layer w env (TimedCond-F.AtEnd a b)
  unfolding timed_condition_parts
  timed_condition_parts-AtEnd a b = ap (λ t. fold-TimedCond (List (Staged Part)) (timed_condition_layer w env) t) (sym (tcond.rolls-AtEnd a b))
      ∙ fold-roll-TimedCond (List (Staged Part)) (timed_condition_layer w env) (TimedCond-F.AtEnd a b)

  pub timed_condition_parts-LeftOut : (a : ℕ) → timed_condition_parts w env (tcond.LeftOut a)
      ≡ timed_condition_layer w env (TimedCond-F.LeftOut a)
  unfolding timed_condition_parts
  timed_condition_parts-LeftOut a = ap (λ t. fold-TimedCond (List (Staged Part)) (timed_condition_layer w env) t) (sym (tcond.rolls-LeftOut a))
      ∙ fold-roll-TimedCond (List (Staged Part)) (timed_condition_layer w env) (TimedCond-F.LeftOut a)

-- duration_bounds
module _ (at_end : Bool) where
  pub duration_bounds-And : (a : ℕ) (b : List DurTree) → duration_bounds at_end (dur.And a b)
      ≡ duration_layer (DurTree-F.And a (map (λ c at_end. duration_bounds at_end c) b)) at_end
  unfolding duration_bounds
  duration_bounds-And a b = ap (λ t. fold-DurTree (Bool → List DurationBound) duration_layer t at_end) (sym (dur.rolls-And a b))
      ∙ ap (λ f. f at_end) (fold-roll-DurTree (Bool → List DurationBound) duration_layer (DurTree-F.And a b))

  pub duration_bounds-AtStart : (a : ℕ) (b : DurTree) → duration_bounds at_end (dur.AtStart a b)
      ≡ duration_layer (DurTree-F.AtStart a (λ at_end. duration_bounds at_end b)) at_end
  unfolding duration_bounds
  duration_bounds-AtStart a b = ap (λ t. fold-DurTree (Bool → List DurationBound) duration_layer t at_end) (sym (dur.rolls-AtStart a b))
      ∙ ap (λ f. f at_end) (fold-roll-DurTree (Bool → List DurationBound) duration_layer (DurTree-F.AtStart a b))

  pub duration_bounds-AtEnd : (a : ℕ) (b : DurTree) → duration_bounds at_end (dur.AtEnd a b)
      ≡ duration_layer (DurTree-F.AtEnd a (λ at_end. duration_bounds at_end b)) at_end
  unfolding duration_bounds
  duration_bounds-AtEnd a b = ap (λ t. fold-DurTree (Bool → List DurationBound) duration_layer t at_end) (sym (dur.rolls-AtEnd a b))
      ∙ ap (λ f. f at_end) (fold-roll-DurTree (Bool → List DurationBound) duration_layer (DurTree-F.AtEnd a b))

  pub duration_bounds-Bound : (a : ℕ) (b : Comparison) (c : ExprTree) → duration_bounds at_end (dur.Bound a b c)
      ≡ duration_layer (DurTree-F.Bound a b c) at_end
  unfolding duration_bounds
  duration_bounds-Bound a b c = ap (λ t. fold-DurTree (Bool → List DurationBound) duration_layer t at_end) (sym (dur.rolls-Bound a b c))
      ∙ ap (λ f. f at_end) (fold-roll-DurTree (Bool → List DurationBound) duration_layer (DurTree-F.Bound a b c))

  pub duration_bounds-LeftOut : (a : ℕ) → duration_bounds at_end (dur.LeftOut a)
      ≡ duration_layer (DurTree-F.LeftOut a) at_end
  unfolding duration_bounds
  duration_bounds-LeftOut a = ap (λ t. fold-DurTree (Bool → List DurationBound) duration_layer t at_end) (sym (dur.rolls-LeftOut a))
      ∙ ap (λ f. f at_end) (fold-roll-DurTree (Bool → List DurationBound) duration_layer (DurTree-F.LeftOut a))

-- reckoned
module _ (w : World) (us : Unknowns) (env : Env) where
  pub reckoned-Number : (a : ℕ) (b : ℚ) → reckoned w us env (expr.Number a b)
      ≡ reckoned_layer w us env (ExprTree-F.Number a b)
  unfolding reckoned
  reckoned-Number a b = ap (λ t. fold-ExprTree Reckoned (reckoned_layer w us env) t) (sym (expr.rolls-Number a b))
      ∙ fold-roll-ExprTree Reckoned (reckoned_layer w us env) (ExprTree-F.Number a b)

  pub reckoned-Fluent : (a : Atom) → reckoned w us env (expr.Fluent a)
      ≡ reckoned_layer w us env (ExprTree-F.Fluent a)
  unfolding reckoned
  reckoned-Fluent a = ap (λ t. fold-ExprTree Reckoned (reckoned_layer w us env) t) (sym (expr.rolls-Fluent a))
      ∙ fold-roll-ExprTree Reckoned (reckoned_layer w us env) (ExprTree-F.Fluent a)

  pub reckoned-Duration : (a : ℕ) → reckoned w us env (expr.Duration a)
      ≡ reckoned_layer w us env (ExprTree-F.Duration a)
  unfolding reckoned
  reckoned-Duration a = ap (λ t. fold-ExprTree Reckoned (reckoned_layer w us env) t) (sym (expr.rolls-Duration a))
      ∙ fold-roll-ExprTree Reckoned (reckoned_layer w us env) (ExprTree-F.Duration a)

  pub reckoned-Sum : (a : ℕ) (b : List ExprTree) → reckoned w us env (expr.Sum a b)
      ≡ reckoned_layer w us env (ExprTree-F.Sum a (map (λ c. reckoned w us env c) b))
  unfolding reckoned
  reckoned-Sum a b = ap (λ t. fold-ExprTree Reckoned (reckoned_layer w us env) t) (sym (expr.rolls-Sum a b))
      ∙ fold-roll-ExprTree Reckoned (reckoned_layer w us env) (ExprTree-F.Sum a b)

  pub reckoned-Product : (a : ℕ) (b : List ExprTree) → reckoned w us env (expr.Product a b)
      ≡ reckoned_layer w us env (ExprTree-F.Product a (map (λ c. reckoned w us env c) b))
  unfolding reckoned
  reckoned-Product a b = ap (λ t. fold-ExprTree Reckoned (reckoned_layer w us env) t) (sym (expr.rolls-Product a b))
      ∙ fold-roll-ExprTree Reckoned (reckoned_layer w us env) (ExprTree-F.Product a b)

  pub reckoned-Negative : (a : ℕ) (b : ExprTree) → reckoned w us env (expr.Negative a b)
      ≡ reckoned_layer w us env (ExprTree-F.Negative a (reckoned w us env b))
  unfolding reckoned
  reckoned-Negative a b = ap (λ t. fold-ExprTree Reckoned (reckoned_layer w us env) t) (sym (expr.rolls-Negative a b))
      ∙ fold-roll-ExprTree Reckoned (reckoned_layer w us env) (ExprTree-F.Negative a b)

  pub reckoned-Difference : (a : ℕ) (b : ExprTree) (c : ExprTree) → reckoned w us env (expr.Difference a b c)
      ≡ reckoned_layer w us env (ExprTree-F.Difference a (reckoned w us env b) (reckoned w us env c))
  unfolding reckoned
  reckoned-Difference a b c = ap (λ t. fold-ExprTree Reckoned (reckoned_layer w us env) t) (sym (expr.rolls-Difference a b c))
      ∙ fold-roll-ExprTree Reckoned (reckoned_layer w us env) (ExprTree-F.Difference a b c)

  pub reckoned-Quotient : (a : ℕ) (b : ExprTree) (c : ExprTree) → reckoned w us env (expr.Quotient a b c)
      ≡ reckoned_layer w us env (ExprTree-F.Quotient a (reckoned w us env b) (reckoned w us env c))
  unfolding reckoned
  reckoned-Quotient a b c = ap (λ t. fold-ExprTree Reckoned (reckoned_layer w us env) t) (sym (expr.rolls-Quotient a b c))
      ∙ fold-roll-ExprTree Reckoned (reckoned_layer w us env) (ExprTree-F.Quotient a b c)

  pub reckoned-LeftOut : (a : ℕ) → reckoned w us env (expr.LeftOut a)
      ≡ reckoned_layer w us env (ExprTree-F.LeftOut a)
  unfolding reckoned
  reckoned-LeftOut a = ap (λ t. fold-ExprTree Reckoned (reckoned_layer w us env) t) (sym (expr.rolls-LeftOut a))
      ∙ fold-roll-ExprTree Reckoned (reckoned_layer w us env) (ExprTree-F.LeftOut a)

  pub reckoned-TotalTime : (a : ℕ) → reckoned w us env (expr.TotalTime a)
      ≡ reckoned_layer w us env (ExprTree-F.TotalTime a)
  unfolding reckoned
  reckoned-TotalTime a = ap (λ t. fold-ExprTree Reckoned (reckoned_layer w us env) t) (sym (expr.rolls-TotalTime a))
      ∙ fold-roll-ExprTree Reckoned (reckoned_layer w us env) (ExprTree-F.TotalTime a)

  pub reckoned-Violated : (a : ℕ) (b : Name) → reckoned w us env (expr.Violated a b)
      ≡ reckoned_layer w us env (ExprTree-F.Violated a b)
  unfolding reckoned
  reckoned-Violated a b = ap (λ t. fold-ExprTree Reckoned (reckoned_layer w us env) t) (sym (expr.rolls-Violated a b))
      ∙ fold-roll-ExprTree Reckoned (reckoned_layer w us env) (ExprTree-F.Violated a b)

  pub reckoned-TimeCost : (a : ℕ) (b : Name) → reckoned w us env (expr.TimeCost a b)
      ≡ reckoned_layer w us env (ExprTree-F.TimeCost a b)
  unfolding reckoned
  reckoned-TimeCost a b = ap (λ t. fold-ExprTree Reckoned (reckoned_layer w us env) t) (sym (expr.rolls-TimeCost a b))
      ∙ fold-roll-ExprTree Reckoned (reckoned_layer w us env) (ExprTree-F.TimeCost a b)

-- mentioned
module _ (w : World) (env : Env) where
  pub mentioned-Number : (a : ℕ) (b : ℚ) → mentioned w env (expr.Number a b)
      ≡ mentioned_layer w env (ExprTree-F.Number a b)
  unfolding mentioned
  mentioned-Number a b = ap (λ t. fold-ExprTree (List (ℕ × GroundAtom)) (mentioned_layer w env) t) (sym (expr.rolls-Number a b))
      ∙ fold-roll-ExprTree (List (ℕ × GroundAtom)) (mentioned_layer w env) (ExprTree-F.Number a b)

  pub mentioned-Fluent : (a : Atom) → mentioned w env (expr.Fluent a)
      ≡ mentioned_layer w env (ExprTree-F.Fluent a)
  unfolding mentioned
  mentioned-Fluent a = ap (λ t. fold-ExprTree (List (ℕ × GroundAtom)) (mentioned_layer w env) t) (sym (expr.rolls-Fluent a))
      ∙ fold-roll-ExprTree (List (ℕ × GroundAtom)) (mentioned_layer w env) (ExprTree-F.Fluent a)

  pub mentioned-Duration : (a : ℕ) → mentioned w env (expr.Duration a)
      ≡ mentioned_layer w env (ExprTree-F.Duration a)
  unfolding mentioned
  mentioned-Duration a = ap (λ t. fold-ExprTree (List (ℕ × GroundAtom)) (mentioned_layer w env) t) (sym (expr.rolls-Duration a))
      ∙ fold-roll-ExprTree (List (ℕ × GroundAtom)) (mentioned_layer w env) (ExprTree-F.Duration a)

  pub mentioned-Sum : (a : ℕ) (b : List ExprTree) → mentioned w env (expr.Sum a b)
      ≡ mentioned_layer w env (ExprTree-F.Sum a (map (λ c. mentioned w env c) b))
  unfolding mentioned
  mentioned-Sum a b = ap (λ t. fold-ExprTree (List (ℕ × GroundAtom)) (mentioned_layer w env) t) (sym (expr.rolls-Sum a b))
      ∙ fold-roll-ExprTree (List (ℕ × GroundAtom)) (mentioned_layer w env) (ExprTree-F.Sum a b)

  pub mentioned-Product : (a : ℕ) (b : List ExprTree) → mentioned w env (expr.Product a b)
      ≡ mentioned_layer w env (ExprTree-F.Product a (map (λ c. mentioned w env c) b))
  unfolding mentioned
  mentioned-Product a b = ap (λ t. fold-ExprTree (List (ℕ × GroundAtom)) (mentioned_layer w env) t) (sym (expr.rolls-Product a b))
      ∙ fold-roll-ExprTree (List (ℕ × GroundAtom)) (mentioned_layer w env) (ExprTree-F.Product a b)

  pub mentioned-Negative : (a : ℕ) (b : ExprTree) → mentioned w env (expr.Negative a b)
      ≡ mentioned_layer w env (ExprTree-F.Negative a (mentioned w env b))
  unfolding mentioned
  mentioned-Negative a b = ap (λ t. fold-ExprTree (List (ℕ × GroundAtom)) (mentioned_layer w env) t) (sym (expr.rolls-Negative a b))
      ∙ fold-roll-ExprTree (List (ℕ × GroundAtom)) (mentioned_layer w env) (ExprTree-F.Negative a b)

  pub mentioned-Difference : (a : ℕ) (b : ExprTree) (c : ExprTree) → mentioned w env (expr.Difference a b c)
      ≡ mentioned_layer w env (ExprTree-F.Difference a (mentioned w env b) (mentioned w env c))
  unfolding mentioned
  mentioned-Difference a b c = ap (λ t. fold-ExprTree (List (ℕ × GroundAtom)) (mentioned_layer w env) t) (sym (expr.rolls-Difference a b c))
      ∙ fold-roll-ExprTree (List (ℕ × GroundAtom)) (mentioned_layer w env) (ExprTree-F.Difference a b c)

  pub mentioned-Quotient : (a : ℕ) (b : ExprTree) (c : ExprTree) → mentioned w env (expr.Quotient a b c)
      ≡ mentioned_layer w env (ExprTree-F.Quotient a (mentioned w env b) (mentioned w env c))
  unfolding mentioned
  mentioned-Quotient a b c = ap (λ t. fold-ExprTree (List (ℕ × GroundAtom)) (mentioned_layer w env) t) (sym (expr.rolls-Quotient a b c))
      ∙ fold-roll-ExprTree (List (ℕ × GroundAtom)) (mentioned_layer w env) (ExprTree-F.Quotient a b c)

  pub mentioned-LeftOut : (a : ℕ) → mentioned w env (expr.LeftOut a)
      ≡ mentioned_layer w env (ExprTree-F.LeftOut a)
  unfolding mentioned
  mentioned-LeftOut a = ap (λ t. fold-ExprTree (List (ℕ × GroundAtom)) (mentioned_layer w env) t) (sym (expr.rolls-LeftOut a))
      ∙ fold-roll-ExprTree (List (ℕ × GroundAtom)) (mentioned_layer w env) (ExprTree-F.LeftOut a)

  pub mentioned-TotalTime : (a : ℕ) → mentioned w env (expr.TotalTime a)
      ≡ mentioned_layer w env (ExprTree-F.TotalTime a)
  unfolding mentioned
  mentioned-TotalTime a = ap (λ t. fold-ExprTree (List (ℕ × GroundAtom)) (mentioned_layer w env) t) (sym (expr.rolls-TotalTime a))
      ∙ fold-roll-ExprTree (List (ℕ × GroundAtom)) (mentioned_layer w env) (ExprTree-F.TotalTime a)

  pub mentioned-Violated : (a : ℕ) (b : Name) → mentioned w env (expr.Violated a b)
      ≡ mentioned_layer w env (ExprTree-F.Violated a b)
  unfolding mentioned
  mentioned-Violated a b = ap (λ t. fold-ExprTree (List (ℕ × GroundAtom)) (mentioned_layer w env) t) (sym (expr.rolls-Violated a b))
      ∙ fold-roll-ExprTree (List (ℕ × GroundAtom)) (mentioned_layer w env) (ExprTree-F.Violated a b)

  pub mentioned-TimeCost : (a : ℕ) (b : Name) → mentioned w env (expr.TimeCost a b)
      ≡ mentioned_layer w env (ExprTree-F.TimeCost a b)
  unfolding mentioned
  mentioned-TimeCost a b = ap (λ t. fold-ExprTree (List (ℕ × GroundAtom)) (mentioned_layer w env) t) (sym (expr.rolls-TimeCost a b))
      ∙ fold-roll-ExprTree (List (ℕ × GroundAtom)) (mentioned_layer w env) (ExprTree-F.TimeCost a b)

-- exact
module _ (w : World) (us : Unknowns) (env : Env) (x : ℕ → ℚ) where
  pub exact-Number : (a : ℕ) (b : ℚ) → exact w us env x (expr.Number a b)
      ≡ exact_layer w us env x (ExprTree-F.Number a b)
  unfolding exact
  exact-Number a b = ap (λ t. fold-ExprTree ℚ (exact_layer w us env x) t) (sym (expr.rolls-Number a b))
      ∙ fold-roll-ExprTree ℚ (exact_layer w us env x) (ExprTree-F.Number a b)

  pub exact-Fluent : (a : Atom) → exact w us env x (expr.Fluent a)
      ≡ exact_layer w us env x (ExprTree-F.Fluent a)
  unfolding exact
  exact-Fluent a = ap (λ t. fold-ExprTree ℚ (exact_layer w us env x) t) (sym (expr.rolls-Fluent a))
      ∙ fold-roll-ExprTree ℚ (exact_layer w us env x) (ExprTree-F.Fluent a)

  pub exact-Duration : (a : ℕ) → exact w us env x (expr.Duration a)
      ≡ exact_layer w us env x (ExprTree-F.Duration a)
  unfolding exact
  exact-Duration a = ap (λ t. fold-ExprTree ℚ (exact_layer w us env x) t) (sym (expr.rolls-Duration a))
      ∙ fold-roll-ExprTree ℚ (exact_layer w us env x) (ExprTree-F.Duration a)

  pub exact-Sum : (a : ℕ) (b : List ExprTree) → exact w us env x (expr.Sum a b)
      ≡ exact_layer w us env x (ExprTree-F.Sum a (map (λ c. exact w us env x c) b))
  unfolding exact
  exact-Sum a b = ap (λ t. fold-ExprTree ℚ (exact_layer w us env x) t) (sym (expr.rolls-Sum a b))
      ∙ fold-roll-ExprTree ℚ (exact_layer w us env x) (ExprTree-F.Sum a b)

  pub exact-Product : (a : ℕ) (b : List ExprTree) → exact w us env x (expr.Product a b)
      ≡ exact_layer w us env x (ExprTree-F.Product a (map (λ c. exact w us env x c) b))
  unfolding exact
  exact-Product a b = ap (λ t. fold-ExprTree ℚ (exact_layer w us env x) t) (sym (expr.rolls-Product a b))
      ∙ fold-roll-ExprTree ℚ (exact_layer w us env x) (ExprTree-F.Product a b)

  pub exact-Negative : (a : ℕ) (b : ExprTree) → exact w us env x (expr.Negative a b)
      ≡ exact_layer w us env x (ExprTree-F.Negative a (exact w us env x b))
  unfolding exact
  exact-Negative a b = ap (λ t. fold-ExprTree ℚ (exact_layer w us env x) t) (sym (expr.rolls-Negative a b))
      ∙ fold-roll-ExprTree ℚ (exact_layer w us env x) (ExprTree-F.Negative a b)

  pub exact-Difference : (a : ℕ) (b : ExprTree) (c : ExprTree) → exact w us env x (expr.Difference a b c)
      ≡ exact_layer w us env x (ExprTree-F.Difference a (exact w us env x b) (exact w us env x c))
  unfolding exact
  exact-Difference a b c = ap (λ t. fold-ExprTree ℚ (exact_layer w us env x) t) (sym (expr.rolls-Difference a b c))
      ∙ fold-roll-ExprTree ℚ (exact_layer w us env x) (ExprTree-F.Difference a b c)

  pub exact-Quotient : (a : ℕ) (b : ExprTree) (c : ExprTree) → exact w us env x (expr.Quotient a b c)
      ≡ exact_layer w us env x (ExprTree-F.Quotient a (exact w us env x b) (exact w us env x c))
  unfolding exact
  exact-Quotient a b c = ap (λ t. fold-ExprTree ℚ (exact_layer w us env x) t) (sym (expr.rolls-Quotient a b c))
      ∙ fold-roll-ExprTree ℚ (exact_layer w us env x) (ExprTree-F.Quotient a b c)

  pub exact-LeftOut : (a : ℕ) → exact w us env x (expr.LeftOut a)
      ≡ exact_layer w us env x (ExprTree-F.LeftOut a)
  unfolding exact
  exact-LeftOut a = ap (λ t. fold-ExprTree ℚ (exact_layer w us env x) t) (sym (expr.rolls-LeftOut a))
      ∙ fold-roll-ExprTree ℚ (exact_layer w us env x) (ExprTree-F.LeftOut a)

  pub exact-TotalTime : (a : ℕ) → exact w us env x (expr.TotalTime a)
      ≡ exact_layer w us env x (ExprTree-F.TotalTime a)
  unfolding exact
  exact-TotalTime a = ap (λ t. fold-ExprTree ℚ (exact_layer w us env x) t) (sym (expr.rolls-TotalTime a))
      ∙ fold-roll-ExprTree ℚ (exact_layer w us env x) (ExprTree-F.TotalTime a)

  pub exact-Violated : (a : ℕ) (b : Name) → exact w us env x (expr.Violated a b)
      ≡ exact_layer w us env x (ExprTree-F.Violated a b)
  unfolding exact
  exact-Violated a b = ap (λ t. fold-ExprTree ℚ (exact_layer w us env x) t) (sym (expr.rolls-Violated a b))
      ∙ fold-roll-ExprTree ℚ (exact_layer w us env x) (ExprTree-F.Violated a b)

  pub exact-TimeCost : (a : ℕ) (b : Name) → exact w us env x (expr.TimeCost a b)
      ≡ exact_layer w us env x (ExprTree-F.TimeCost a b)
  unfolding exact
  exact-TimeCost a b = ap (λ t. fold-ExprTree ℚ (exact_layer w us env x) t) (sym (expr.rolls-TimeCost a b))
      ∙ fold-roll-ExprTree ℚ (exact_layer w us env x) (ExprTree-F.TimeCost a b)

-- goal_preferences
module _ where
  pub goal_preferences-Condition : (a : CondTree) → goal_preferences (goal.Condition a)
      ≡ preference_layer (GoalTree-F.Condition a)
  unfolding goal_preferences
  goal_preferences-Condition a = ap (λ t. fold-GoalTree (List (Leaf (Named SoftTree))) preference_layer t) (sym (goal.rolls-Condition a))
      ∙ fold-roll-GoalTree (List (Leaf (Named SoftTree))) preference_layer (GoalTree-F.Condition a)

  pub goal_preferences-And : (a : ℕ) (b : List GoalTree) → goal_preferences (goal.And a b)
      ≡ preference_layer (GoalTree-F.And a (map (λ c. goal_preferences c) b))
  unfolding goal_preferences
  goal_preferences-And a b = ap (λ t. fold-GoalTree (List (Leaf (Named SoftTree))) preference_layer t) (sym (goal.rolls-And a b))
      ∙ fold-roll-GoalTree (List (Leaf (Named SoftTree))) preference_layer (GoalTree-F.And a b)

  pub goal_preferences-Forall : (a : ℕ) (b : List Group) (c : GoalTree) → goal_preferences (goal.Forall a b c)
      ≡ preference_layer (GoalTree-F.Forall a b (goal_preferences c))
  unfolding goal_preferences
  goal_preferences-Forall a b c = ap (λ t. fold-GoalTree (List (Leaf (Named SoftTree))) preference_layer t) (sym (goal.rolls-Forall a b c))
      ∙ fold-roll-GoalTree (List (Leaf (Named SoftTree))) preference_layer (GoalTree-F.Forall a b c)

  pub goal_preferences-Preference : (a : ℕ) (b : Option Name) (c : SoftTree) → goal_preferences (goal.Preference a b c)
      ≡ preference_layer (GoalTree-F.Preference a b c)
  unfolding goal_preferences
  goal_preferences-Preference a b c = ap (λ t. fold-GoalTree (List (Leaf (Named SoftTree))) preference_layer t) (sym (goal.rolls-Preference a b c))
      ∙ fold-roll-GoalTree (List (Leaf (Named SoftTree))) preference_layer (GoalTree-F.Preference a b c)

-- constraint_leaves
module _ where
  pub constraint_leaves-And : (a : ℕ) (b : List ConForm) → constraint_leaves (con.And a b)
      ≡ constraint_layer (ConForm-F.And a (map (λ c. constraint_leaves c) b))
  unfolding constraint_leaves
  constraint_leaves-And a b = ap (λ t. fold-ConForm (List (Leaf (Option Text × Trajectory))) constraint_layer t) (sym (con.rolls-And a b))
      ∙ fold-roll-ConForm (List (Leaf (Option Text × Trajectory))) constraint_layer (ConForm-F.And a b)

  pub constraint_leaves-Forall : (a : ℕ) (b : List Group) (c : ConForm) → constraint_leaves (con.Forall a b c)
      ≡ constraint_layer (ConForm-F.Forall a b (constraint_leaves c))
  unfolding constraint_leaves
  constraint_leaves-Forall a b c = ap (λ t. fold-ConForm (List (Leaf (Option Text × Trajectory))) constraint_layer t) (sym (con.rolls-Forall a b c))
      ∙ fold-roll-ConForm (List (Leaf (Option Text × Trajectory))) constraint_layer (ConForm-F.Forall a b c)

  pub constraint_leaves-Hard : (a : Trajectory) → constraint_leaves (con.Hard a)
      ≡ constraint_layer (ConForm-F.Hard a)
  unfolding constraint_leaves
  constraint_leaves-Hard a = ap (λ t. fold-ConForm (List (Leaf (Option Text × Trajectory))) constraint_layer t) (sym (con.rolls-Hard a))
      ∙ fold-roll-ConForm (List (Leaf (Option Text × Trajectory))) constraint_layer (ConForm-F.Hard a)

  pub constraint_leaves-Preference : (a : ℕ) (b : Option Name) (c : Trajectory) → constraint_leaves (con.Preference a b c)
      ≡ constraint_layer (ConForm-F.Preference a b c)
  unfolding constraint_leaves
  constraint_leaves-Preference a b c = ap (λ t. fold-ConForm (List (Leaf (Option Text × Trajectory))) constraint_layer t) (sym (con.rolls-Preference a b c))
      ∙ fold-roll-ConForm (List (Leaf (Option Text × Trajectory))) constraint_layer (ConForm-F.Preference a b c)

-- condition_count
module _ (w : World) where
  pub condition_count-Empty : (a : ℕ) → condition_count w (cond.Empty a)
      ≡ condition_count_layer w (CondTree-F.Empty a)
  unfolding condition_count
  condition_count-Empty a = ap (λ t. fold-CondTree ℕ (condition_count_layer w) t) (sym (cond.rolls-Empty a))
      ∙ fold-roll-CondTree ℕ (condition_count_layer w) (CondTree-F.Empty a)

  pub condition_count-And : (a : ℕ) (b : List CondTree) → condition_count w (cond.And a b)
      ≡ condition_count_layer w (CondTree-F.And a (map (λ c. condition_count w c) b))
  unfolding condition_count
  condition_count-And a b = ap (λ t. fold-CondTree ℕ (condition_count_layer w) t) (sym (cond.rolls-And a b))
      ∙ fold-roll-CondTree ℕ (condition_count_layer w) (CondTree-F.And a b)

  pub condition_count-Forall : (a : ℕ) (b : List Group) (c : CondTree) → condition_count w (cond.Forall a b c)
      ≡ condition_count_layer w (CondTree-F.Forall a b (condition_count w c))
  unfolding condition_count
  condition_count-Forall a b c = ap (λ t. fold-CondTree ℕ (condition_count_layer w) t) (sym (cond.rolls-Forall a b c))
      ∙ fold-roll-CondTree ℕ (condition_count_layer w) (CondTree-F.Forall a b c)

  pub condition_count-Atom : (a : Atom) → condition_count w (cond.Atom a)
      ≡ condition_count_layer w (CondTree-F.Atom a)
  unfolding condition_count
  condition_count-Atom a = ap (λ t. fold-CondTree ℕ (condition_count_layer w) t) (sym (cond.rolls-Atom a))
      ∙ fold-roll-CondTree ℕ (condition_count_layer w) (CondTree-F.Atom a)

  pub condition_count-Not : (a : ℕ) (b : CondTree) → condition_count w (cond.Not a b)
      ≡ condition_count_layer w (CondTree-F.Not a (condition_count w b))
  unfolding condition_count
  condition_count-Not a b = ap (λ t. fold-CondTree ℕ (condition_count_layer w) t) (sym (cond.rolls-Not a b))
      ∙ fold-roll-CondTree ℕ (condition_count_layer w) (CondTree-F.Not a b)

  pub condition_count-Equal : (a : ℕ) (b : Side) (c : Side) → condition_count w (cond.Equal a b c)
      ≡ condition_count_layer w (CondTree-F.Equal a b c)
  unfolding condition_count
  condition_count-Equal a b c = ap (λ t. fold-CondTree ℕ (condition_count_layer w) t) (sym (cond.rolls-Equal a b c))
      ∙ fold-roll-CondTree ℕ (condition_count_layer w) (CondTree-F.Equal a b c)

  pub condition_count-Compare : (a : ℕ) (b : Comparison) (c : ExprTree) (d : ExprTree) → condition_count w (cond.Compare a b c d)
      ≡ condition_count_layer w (CondTree-F.Compare a b c d)
  unfolding condition_count
  condition_count-Compare a b c d = ap (λ t. fold-CondTree ℕ (condition_count_layer w) t) (sym (cond.rolls-Compare a b c d))
      ∙ fold-roll-CondTree ℕ (condition_count_layer w) (CondTree-F.Compare a b c d)

  pub condition_count-LeftOut : (a : ℕ) → condition_count w (cond.LeftOut a)
      ≡ condition_count_layer w (CondTree-F.LeftOut a)
  unfolding condition_count
  condition_count-LeftOut a = ap (λ t. fold-CondTree ℕ (condition_count_layer w) t) (sym (cond.rolls-LeftOut a))
      ∙ fold-roll-CondTree ℕ (condition_count_layer w) (CondTree-F.LeftOut a)

-- timed_count
module _ (w : World) where
  pub timed_count-Empty : (a : ℕ) → timed_count w (tcond.Empty a)
      ≡ timed_count_layer w (TimedCond-F.Empty a)
  unfolding timed_count
  timed_count-Empty a = ap (λ t. fold-TimedCond ℕ (timed_count_layer w) t) (sym (tcond.rolls-Empty a))
      ∙ fold-roll-TimedCond ℕ (timed_count_layer w) (TimedCond-F.Empty a)

  pub timed_count-And : (a : ℕ) (b : List TimedCond) → timed_count w (tcond.And a b)
      ≡ timed_count_layer w (TimedCond-F.And a (map (λ c. timed_count w c) b))
  unfolding timed_count
  timed_count-And a b = ap (λ t. fold-TimedCond ℕ (timed_count_layer w) t) (sym (tcond.rolls-And a b))
      ∙ fold-roll-TimedCond ℕ (timed_count_layer w) (TimedCond-F.And a b)

  pub timed_count-AtStart : (a : ℕ) (b : CondTree) → timed_count w (tcond.AtStart a b)
      ≡ timed_count_layer w (TimedCond-F.AtStart a b)
  unfolding timed_count
  timed_count-AtStart a b = ap (λ t. fold-TimedCond ℕ (timed_count_layer w) t) (sym (tcond.rolls-AtStart a b))
      ∙ fold-roll-TimedCond ℕ (timed_count_layer w) (TimedCond-F.AtStart a b)

  pub timed_count-OverAll : (a : ℕ) (b : CondTree) → timed_count w (tcond.OverAll a b)
      ≡ timed_count_layer w (TimedCond-F.OverAll a b)
  unfolding timed_count
  timed_count-OverAll a b = ap (λ t. fold-TimedCond ℕ (timed_count_layer w) t) (sym (tcond.rolls-OverAll a b))
      ∙ fold-roll-TimedCond ℕ (timed_count_layer w) (TimedCond-F.OverAll a b)

  pub timed_count-AtEnd : (a : ℕ) (b : CondTree) → timed_count w (tcond.AtEnd a b)
      ≡ timed_count_layer w (TimedCond-F.AtEnd a b)
  unfolding timed_count
  timed_count-AtEnd a b = ap (λ t. fold-TimedCond ℕ (timed_count_layer w) t) (sym (tcond.rolls-AtEnd a b))
      ∙ fold-roll-TimedCond ℕ (timed_count_layer w) (TimedCond-F.AtEnd a b)

  pub timed_count-LeftOut : (a : ℕ) → timed_count w (tcond.LeftOut a)
      ≡ timed_count_layer w (TimedCond-F.LeftOut a)
  unfolding timed_count
  timed_count-LeftOut a = ap (λ t. fold-TimedCond ℕ (timed_count_layer w) t) (sym (tcond.rolls-LeftOut a))
      ∙ fold-roll-TimedCond ℕ (timed_count_layer w) (TimedCond-F.LeftOut a)

-- formula_count
module _ (w : World) where
  pub formula_count-Empty : (a : ℕ) → formula_count w (form.Empty a)
      ≡ formula_count_layer w (FactForm-F.Empty a)
  unfolding formula_count
  formula_count-Empty a = ap (λ t. fold-FactForm ℕ (formula_count_layer w) t) (sym (form.rolls-Empty a))
      ∙ fold-roll-FactForm ℕ (formula_count_layer w) (FactForm-F.Empty a)

  pub formula_count-Atom : (a : Atom) → formula_count w (form.Atom a)
      ≡ formula_count_layer w (FactForm-F.Atom a)
  unfolding formula_count
  formula_count-Atom a = ap (λ t. fold-FactForm ℕ (formula_count_layer w) t) (sym (form.rolls-Atom a))
      ∙ fold-roll-FactForm ℕ (formula_count_layer w) (FactForm-F.Atom a)

  pub formula_count-Equal : (a : ℕ) (b : Side) (c : Side) → formula_count w (form.Equal a b c)
      ≡ formula_count_layer w (FactForm-F.Equal a b c)
  unfolding formula_count
  formula_count-Equal a b c = ap (λ t. fold-FactForm ℕ (formula_count_layer w) t) (sym (form.rolls-Equal a b c))
      ∙ fold-roll-FactForm ℕ (formula_count_layer w) (FactForm-F.Equal a b c)

  pub formula_count-And : (a : ℕ) (b : List FactForm) → formula_count w (form.And a b)
      ≡ formula_count_layer w (FactForm-F.And a (map (λ c. formula_count w c) b))
  unfolding formula_count
  formula_count-And a b = ap (λ t. fold-FactForm ℕ (formula_count_layer w) t) (sym (form.rolls-And a b))
      ∙ fold-roll-FactForm ℕ (formula_count_layer w) (FactForm-F.And a b)

  pub formula_count-Or : (a : ℕ) (b : List FactForm) → formula_count w (form.Or a b)
      ≡ formula_count_layer w (FactForm-F.Or a (map (λ c. formula_count w c) b))
  unfolding formula_count
  formula_count-Or a b = ap (λ t. fold-FactForm ℕ (formula_count_layer w) t) (sym (form.rolls-Or a b))
      ∙ fold-roll-FactForm ℕ (formula_count_layer w) (FactForm-F.Or a b)

  pub formula_count-Not : (a : ℕ) (b : FactForm) → formula_count w (form.Not a b)
      ≡ formula_count_layer w (FactForm-F.Not a (formula_count w b))
  unfolding formula_count
  formula_count-Not a b = ap (λ t. fold-FactForm ℕ (formula_count_layer w) t) (sym (form.rolls-Not a b))
      ∙ fold-roll-FactForm ℕ (formula_count_layer w) (FactForm-F.Not a b)

  pub formula_count-Imply : (a : ℕ) (b : FactForm) (c : FactForm) → formula_count w (form.Imply a b c)
      ≡ formula_count_layer w (FactForm-F.Imply a (formula_count w b) (formula_count w c))
  unfolding formula_count
  formula_count-Imply a b c = ap (λ t. fold-FactForm ℕ (formula_count_layer w) t) (sym (form.rolls-Imply a b c))
      ∙ fold-roll-FactForm ℕ (formula_count_layer w) (FactForm-F.Imply a b c)

  pub formula_count-Exists : (a : ℕ) (b : List Group) (c : FactForm) → formula_count w (form.Exists a b c)
      ≡ formula_count_layer w (FactForm-F.Exists a b (formula_count w c))
  unfolding formula_count
  formula_count-Exists a b c = ap (λ t. fold-FactForm ℕ (formula_count_layer w) t) (sym (form.rolls-Exists a b c))
      ∙ fold-roll-FactForm ℕ (formula_count_layer w) (FactForm-F.Exists a b c)

  pub formula_count-Forall : (a : ℕ) (b : List Group) (c : FactForm) → formula_count w (form.Forall a b c)
      ≡ formula_count_layer w (FactForm-F.Forall a b (formula_count w c))
  unfolding formula_count
  formula_count-Forall a b c = ap (λ t. fold-FactForm ℕ (formula_count_layer w) t) (sym (form.rolls-Forall a b c))
      ∙ fold-roll-FactForm ℕ (formula_count_layer w) (FactForm-F.Forall a b c)

  pub formula_count-LeftOut : (a : ℕ) → formula_count w (form.LeftOut a)
      ≡ formula_count_layer w (FactForm-F.LeftOut a)
  unfolding formula_count
  formula_count-LeftOut a = ap (λ t. fold-FactForm ℕ (formula_count_layer w) t) (sym (form.rolls-LeftOut a))
      ∙ fold-roll-FactForm ℕ (formula_count_layer w) (FactForm-F.LeftOut a)

-- soft_count
module _ (w : World) where
  pub soft_count-Formula : (a : FactForm) → soft_count w (soft.Formula a)
      ≡ soft_count_layer w (SoftTree-F.Formula a)
  unfolding soft_count
  soft_count-Formula a = ap (λ t. fold-SoftTree ℕ (soft_count_layer w) t) (sym (soft.rolls-Formula a))
      ∙ fold-roll-SoftTree ℕ (soft_count_layer w) (SoftTree-F.Formula a)

  pub soft_count-Equal : (a : ℕ) (b : Side) (c : Side) → soft_count w (soft.Equal a b c)
      ≡ soft_count_layer w (SoftTree-F.Equal a b c)
  unfolding soft_count
  soft_count-Equal a b c = ap (λ t. fold-SoftTree ℕ (soft_count_layer w) t) (sym (soft.rolls-Equal a b c))
      ∙ fold-roll-SoftTree ℕ (soft_count_layer w) (SoftTree-F.Equal a b c)

  pub soft_count-Comparison : (a : CondTree) → soft_count w (soft.Comparison a)
      ≡ soft_count_layer w (SoftTree-F.Comparison a)
  unfolding soft_count
  soft_count-Comparison a = ap (λ t. fold-SoftTree ℕ (soft_count_layer w) t) (sym (soft.rolls-Comparison a))
      ∙ fold-roll-SoftTree ℕ (soft_count_layer w) (SoftTree-F.Comparison a)

  pub soft_count-And : (a : ℕ) (b : List SoftTree) → soft_count w (soft.And a b)
      ≡ soft_count_layer w (SoftTree-F.And a (map (λ c. soft_count w c) b))
  unfolding soft_count
  soft_count-And a b = ap (λ t. fold-SoftTree ℕ (soft_count_layer w) t) (sym (soft.rolls-And a b))
      ∙ fold-roll-SoftTree ℕ (soft_count_layer w) (SoftTree-F.And a b)

-- hard_count
module _ (w : World) where
  pub hard_count-Condition : (a : CondTree) → hard_count w (goal.Condition a)
      ≡ goal_count_layer w (GoalTree-F.Condition a)
  unfolding hard_count
  hard_count-Condition a = ap (λ t. fold-GoalTree (Option ℕ) (goal_count_layer w) t) (sym (goal.rolls-Condition a))
      ∙ fold-roll-GoalTree (Option ℕ) (goal_count_layer w) (GoalTree-F.Condition a)

  pub hard_count-And : (a : ℕ) (b : List GoalTree) → hard_count w (goal.And a b)
      ≡ goal_count_layer w (GoalTree-F.And a (map (λ c. hard_count w c) b))
  unfolding hard_count
  hard_count-And a b = ap (λ t. fold-GoalTree (Option ℕ) (goal_count_layer w) t) (sym (goal.rolls-And a b))
      ∙ fold-roll-GoalTree (Option ℕ) (goal_count_layer w) (GoalTree-F.And a b)

  pub hard_count-Forall : (a : ℕ) (b : List Group) (c : GoalTree) → hard_count w (goal.Forall a b c)
      ≡ goal_count_layer w (GoalTree-F.Forall a b (hard_count w c))
  unfolding hard_count
  hard_count-Forall a b c = ap (λ t. fold-GoalTree (Option ℕ) (goal_count_layer w) t) (sym (goal.rolls-Forall a b c))
      ∙ fold-roll-GoalTree (Option ℕ) (goal_count_layer w) (GoalTree-F.Forall a b c)

  pub hard_count-Preference : (a : ℕ) (b : Option Name) (c : SoftTree) → hard_count w (goal.Preference a b c)
      ≡ goal_count_layer w (GoalTree-F.Preference a b c)
  unfolding hard_count
  hard_count-Preference a b c = ap (λ t. fold-GoalTree (Option ℕ) (goal_count_layer w) t) (sym (goal.rolls-Preference a b c))
      ∙ fold-roll-GoalTree (Option ℕ) (goal_count_layer w) (GoalTree-F.Preference a b c)

pub ruleset walks = (
  effect_parts-Empty,
  effect_parts-And,
  effect_parts-Add,
  effect_parts-Delete,
  effect_parts-Change,
  effect_parts-LeftOut,
  timed_effect_parts-Empty,
  timed_effect_parts-And,
  timed_effect_parts-AtStart,
  timed_effect_parts-AtEnd,
  timed_effect_parts-Rate,
  timed_effect_parts-LeftOut,
  condition_parts-Empty,
  condition_parts-And,
  condition_parts-Forall,
  condition_parts-Atom,
  condition_parts-Not,
  condition_parts-Equal,
  condition_parts-Compare,
  condition_parts-LeftOut,
  timed_condition_parts-Empty,
  timed_condition_parts-And,
  timed_condition_parts-AtStart,
  timed_condition_parts-OverAll,
  timed_condition_parts-AtEnd,
  timed_condition_parts-LeftOut,
  duration_bounds-And,
  duration_bounds-AtStart,
  duration_bounds-AtEnd,
  duration_bounds-Bound,
  duration_bounds-LeftOut,
  reckoned-Number,
  reckoned-Fluent,
  reckoned-Duration,
  reckoned-Sum,
  reckoned-Product,
  reckoned-Negative,
  reckoned-Difference,
  reckoned-Quotient,
  reckoned-LeftOut,
  reckoned-TotalTime,
  reckoned-Violated,
  reckoned-TimeCost,
  mentioned-Number,
  mentioned-Fluent,
  mentioned-Duration,
  mentioned-Sum,
  mentioned-Product,
  mentioned-Negative,
  mentioned-Difference,
  mentioned-Quotient,
  mentioned-LeftOut,
  mentioned-TotalTime,
  mentioned-Violated,
  mentioned-TimeCost,
  exact-Number,
  exact-Fluent,
  exact-Duration,
  exact-Sum,
  exact-Product,
  exact-Negative,
  exact-Difference,
  exact-Quotient,
  exact-LeftOut,
  exact-TotalTime,
  exact-Violated,
  exact-TimeCost,
  goal_preferences-Condition,
  goal_preferences-And,
  goal_preferences-Forall,
  goal_preferences-Preference,
  constraint_leaves-And,
  constraint_leaves-Forall,
  constraint_leaves-Hard,
  constraint_leaves-Preference,
  condition_count-Empty,
  condition_count-And,
  condition_count-Forall,
  condition_count-Atom,
  condition_count-Not,
  condition_count-Equal,
  condition_count-Compare,
  condition_count-LeftOut,
  timed_count-Empty,
  timed_count-And,
  timed_count-AtStart,
  timed_count-OverAll,
  timed_count-AtEnd,
  timed_count-LeftOut,
  formula_count-Empty,
  formula_count-Atom,
  formula_count-Equal,
  formula_count-And,
  formula_count-Or,
  formula_count-Not,
  formula_count-Imply,
  formula_count-Exists,
  formula_count-Forall,
  formula_count-LeftOut,
  soft_count-Formula,
  soft_count-Equal,
  soft_count-Comparison,
  soft_count-And,
  hard_count-Condition,
  hard_count-And,
  hard_count-Forall,
  hard_count-Preference,
)
