-- What is wrong with names or types in trees, form by form.
use Rattle.std.proofs.Common.{◌≡◌, sym, ap, ◌∙◌, ℕ, List, ◌++◌, Option}
use Rattle.std.specs.List.{flat_map}
use Rattle.pddl_terms.specs.declared.trees.CondTree.{CondTree, fold-CondTree, fold-roll-CondTree}
use Rattle.pddl_terms.specs.declared.trees.CondTree.TheOpen.{CondTree-F}
use Rattle.pddl_terms.specs.declared.trees.CondTree.TheVariants as cond
use Rattle.pddl_terms.specs.declared.trees.FactForm.{FactForm, fold-FactForm, fold-roll-FactForm}
use Rattle.pddl_terms.specs.declared.trees.FactForm.TheOpen.{FactForm-F}
use Rattle.pddl_terms.specs.declared.trees.FactForm.TheVariants as form
use Rattle.pddl_terms.specs.declared.trees.ConForm.{ConForm, fold-ConForm, fold-roll-ConForm}
use Rattle.pddl_terms.specs.declared.trees.ConForm.TheOpen.{ConForm-F}
use Rattle.pddl_terms.specs.declared.trees.ConForm.TheVariants as con
use Rattle.pddl_terms.specs.declared.trees.GoalTree.{GoalTree, fold-GoalTree, fold-roll-GoalTree}
use Rattle.pddl_terms.specs.declared.trees.GoalTree.TheOpen.{GoalTree-F}
use Rattle.pddl_terms.specs.declared.trees.GoalTree.TheVariants as goal
use Rattle.pddl_terms.specs.declared.trees.EffTree.{EffTree, fold-EffTree, fold-roll-EffTree}
use Rattle.pddl_terms.specs.declared.trees.EffTree.TheOpen.{EffTree-F}
use Rattle.pddl_terms.specs.declared.trees.EffTree.TheVariants as eff
use Rattle.pddl_terms.specs.declared.trees.TimedEff.{TimedEff, fold-TimedEff, fold-roll-TimedEff}
use Rattle.pddl_terms.specs.declared.trees.TimedEff.TheOpen.{TimedEff-F}
use Rattle.pddl_terms.specs.declared.trees.TimedEff.TheVariants as teff
use Rattle.pddl_terms.specs.declared.trees.TimedCond.{TimedCond, fold-TimedCond, fold-roll-TimedCond}
use Rattle.pddl_terms.specs.declared.trees.TimedCond.TheOpen.{TimedCond-F}
use Rattle.pddl_terms.specs.declared.trees.TimedCond.TheVariants as tcond
use Rattle.pddl_terms.specs.declared.trees.SoftTree.{SoftTree, fold-SoftTree, fold-roll-SoftTree}
use Rattle.pddl_terms.specs.declared.trees.SoftTree.TheOpen.{SoftTree-F}
use Rattle.pddl_terms.specs.declared.trees.SoftTree.TheVariants as soft
use Rattle.pddl_terms.specs.declared.trees.Atom.{Atom}
use Rattle.pddl_terms.specs.declared.trees.Call.{Call}
use Rattle.pddl_terms.specs.declared.trees.Group.{Group}
use Rattle.pddl_terms.specs.declared.trees.Name.{Name}
use Rattle.pddl_terms.specs.declared.trees.Trajectory.{Trajectory}
use Rattle.pddl_names.specs.declared.offences.Offence.{Offence}
use Rattle.pddl_names.specs.declared.offences.Phase.{Phase}
use Rattle.pddl_names.specs.declared.declarations.Tables.{Tables}
use Rattle.pddl_names.specs.Declarations.{Typed}
use Rattle.pddl_names.specs.Calls.{variables_offences, bind, atom_offences}
use Rattle.pddl_names.specs.Walks.{condition_layer, condition_offences, formula_layer, formula_offences, trajectory_offences, constraint_layer, constraint_offences, called_atom_offences, effect_layer, effect_offences, timed_effect_layer, timed_effect_offences, timed_condition_layer, timed_condition_offences, soft_layer, soft_offences, goal_layer, goal_offences}
use Rattle.pddl_forms.proofs.Least.{concat-map, concat-map_at}

module _ (p : Phase) (w : Tables) (scope : List Typed) where
  pub condition-And : (a : ℕ) (b : List CondTree) → condition_offences p w scope (cond.And a b) ≡ flat_map (condition_offences p w scope) b
  unfolding condition_offences
  condition-And a b = ap (λ t. fold-CondTree (List Typed → List Offence) (condition_layer p w) t scope) (sym (cond.rolls-And a b))
      ∙ ap (λ f. f scope) (fold-roll-CondTree (List Typed → List Offence) (condition_layer p w) (CondTree-F.And a b))
      ∙ concat-map_at (fold-CondTree (List Typed → List Offence) (condition_layer p w)) scope b

  pub condition-Forall : (a : ℕ) (b : List Group) (c : CondTree) → condition_offences p w scope (cond.Forall a b c) ≡ variables_offences p w b ++ condition_offences p w (bind b scope) c
  unfolding condition_offences
  condition-Forall a b c = ap (λ t. fold-CondTree (List Typed → List Offence) (condition_layer p w) t scope) (sym (cond.rolls-Forall a b c))
      ∙ ap (λ f. f scope) (fold-roll-CondTree (List Typed → List Offence) (condition_layer p w) (CondTree-F.Forall a b c))

  pub condition-Atom : (a : Atom) → condition_offences p w scope (cond.Atom a) ≡ atom_offences p w scope a
  unfolding condition_offences
  condition-Atom a = ap (λ t. fold-CondTree (List Typed → List Offence) (condition_layer p w) t scope) (sym (cond.rolls-Atom a))
      ∙ ap (λ f. f scope) (fold-roll-CondTree (List Typed → List Offence) (condition_layer p w) (CondTree-F.Atom a))

  pub condition-Not : (a : ℕ) (b : CondTree) → condition_offences p w scope (cond.Not a b) ≡ condition_offences p w scope b
  unfolding condition_offences
  condition-Not a b = ap (λ t. fold-CondTree (List Typed → List Offence) (condition_layer p w) t scope) (sym (cond.rolls-Not a b))
      ∙ ap (λ f. f scope) (fold-roll-CondTree (List Typed → List Offence) (condition_layer p w) (CondTree-F.Not a b))

  pub formula-Atom : (a : Atom) → formula_offences p w scope (form.Atom a) ≡ atom_offences p w scope a
  unfolding formula_offences
  formula-Atom a = ap (λ t. fold-FactForm (List Typed → List Offence) (formula_layer p w) t scope) (sym (form.rolls-Atom a))
      ∙ ap (λ f. f scope) (fold-roll-FactForm (List Typed → List Offence) (formula_layer p w) (FactForm-F.Atom a))

  pub formula-And : (a : ℕ) (b : List FactForm) → formula_offences p w scope (form.And a b) ≡ flat_map (formula_offences p w scope) b
  unfolding formula_offences
  formula-And a b = ap (λ t. fold-FactForm (List Typed → List Offence) (formula_layer p w) t scope) (sym (form.rolls-And a b))
      ∙ ap (λ f. f scope) (fold-roll-FactForm (List Typed → List Offence) (formula_layer p w) (FactForm-F.And a b))
      ∙ concat-map_at (fold-FactForm (List Typed → List Offence) (formula_layer p w)) scope b

  pub formula-Or : (a : ℕ) (b : List FactForm) → formula_offences p w scope (form.Or a b) ≡ flat_map (formula_offences p w scope) b
  unfolding formula_offences
  formula-Or a b = ap (λ t. fold-FactForm (List Typed → List Offence) (formula_layer p w) t scope) (sym (form.rolls-Or a b))
      ∙ ap (λ f. f scope) (fold-roll-FactForm (List Typed → List Offence) (formula_layer p w) (FactForm-F.Or a b))
      ∙ concat-map_at (fold-FactForm (List Typed → List Offence) (formula_layer p w)) scope b

  pub formula-Not : (a : ℕ) (b : FactForm) → formula_offences p w scope (form.Not a b) ≡ formula_offences p w scope b
  unfolding formula_offences
  formula-Not a b = ap (λ t. fold-FactForm (List Typed → List Offence) (formula_layer p w) t scope) (sym (form.rolls-Not a b))
      ∙ ap (λ f. f scope) (fold-roll-FactForm (List Typed → List Offence) (formula_layer p w) (FactForm-F.Not a b))

  pub formula-Imply : (a : ℕ) (b : FactForm) (c : FactForm) → formula_offences p w scope (form.Imply a b c) ≡ formula_offences p w scope b ++ formula_offences p w scope c
  unfolding formula_offences
  formula-Imply a b c = ap (λ t. fold-FactForm (List Typed → List Offence) (formula_layer p w) t scope) (sym (form.rolls-Imply a b c))
      ∙ ap (λ f. f scope) (fold-roll-FactForm (List Typed → List Offence) (formula_layer p w) (FactForm-F.Imply a b c))

  pub formula-Exists : (a : ℕ) (b : List Group) (c : FactForm) → formula_offences p w scope (form.Exists a b c) ≡ variables_offences p w b ++ formula_offences p w (bind b scope) c
  unfolding formula_offences
  formula-Exists a b c = ap (λ t. fold-FactForm (List Typed → List Offence) (formula_layer p w) t scope) (sym (form.rolls-Exists a b c))
      ∙ ap (λ f. f scope) (fold-roll-FactForm (List Typed → List Offence) (formula_layer p w) (FactForm-F.Exists a b c))

  pub formula-Forall : (a : ℕ) (b : List Group) (c : FactForm) → formula_offences p w scope (form.Forall a b c) ≡ variables_offences p w b ++ formula_offences p w (bind b scope) c
  unfolding formula_offences
  formula-Forall a b c = ap (λ t. fold-FactForm (List Typed → List Offence) (formula_layer p w) t scope) (sym (form.rolls-Forall a b c))
      ∙ ap (λ f. f scope) (fold-roll-FactForm (List Typed → List Offence) (formula_layer p w) (FactForm-F.Forall a b c))

  pub constraint-And : (a : ℕ) (b : List ConForm) → constraint_offences p w scope (con.And a b) ≡ flat_map (constraint_offences p w scope) b
  unfolding constraint_offences
  constraint-And a b = ap (λ t. fold-ConForm (List Typed → List Offence) (constraint_layer p w) t scope) (sym (con.rolls-And a b))
      ∙ ap (λ f. f scope) (fold-roll-ConForm (List Typed → List Offence) (constraint_layer p w) (ConForm-F.And a b))
      ∙ concat-map_at (fold-ConForm (List Typed → List Offence) (constraint_layer p w)) scope b

  pub constraint-Forall : (a : ℕ) (b : List Group) (c : ConForm) → constraint_offences p w scope (con.Forall a b c) ≡ variables_offences p w b ++ constraint_offences p w (bind b scope) c
  unfolding constraint_offences
  constraint-Forall a b c = ap (λ t. fold-ConForm (List Typed → List Offence) (constraint_layer p w) t scope) (sym (con.rolls-Forall a b c))
      ∙ ap (λ f. f scope) (fold-roll-ConForm (List Typed → List Offence) (constraint_layer p w) (ConForm-F.Forall a b c))

  pub constraint-Hard : (a : Trajectory) → constraint_offences p w scope (con.Hard a) ≡ trajectory_offences p w scope a
  unfolding constraint_offences
  constraint-Hard a = ap (λ t. fold-ConForm (List Typed → List Offence) (constraint_layer p w) t scope) (sym (con.rolls-Hard a))
      ∙ ap (λ f. f scope) (fold-roll-ConForm (List Typed → List Offence) (constraint_layer p w) (ConForm-F.Hard a))

  pub constraint-Preference : (a : ℕ) (b : Option Name) (c : Trajectory) → constraint_offences p w scope (con.Preference a b c) ≡ trajectory_offences p w scope c
  unfolding constraint_offences
  constraint-Preference a b c = ap (λ t. fold-ConForm (List Typed → List Offence) (constraint_layer p w) t scope) (sym (con.rolls-Preference a b c))
      ∙ ap (λ f. f scope) (fold-roll-ConForm (List Typed → List Offence) (constraint_layer p w) (ConForm-F.Preference a b c))

  pub goal-Condition : (a : CondTree) → goal_offences p w scope (goal.Condition a) ≡ condition_offences p w scope a
  unfolding goal_offences
  goal-Condition a = ap (λ t. fold-GoalTree (List Typed → List Offence) (goal_layer p w) t scope) (sym (goal.rolls-Condition a))
      ∙ ap (λ f. f scope) (fold-roll-GoalTree (List Typed → List Offence) (goal_layer p w) (GoalTree-F.Condition a))

  pub goal-And : (a : ℕ) (b : List GoalTree) → goal_offences p w scope (goal.And a b) ≡ flat_map (goal_offences p w scope) b
  unfolding goal_offences
  goal-And a b = ap (λ t. fold-GoalTree (List Typed → List Offence) (goal_layer p w) t scope) (sym (goal.rolls-And a b))
      ∙ ap (λ f. f scope) (fold-roll-GoalTree (List Typed → List Offence) (goal_layer p w) (GoalTree-F.And a b))
      ∙ concat-map_at (fold-GoalTree (List Typed → List Offence) (goal_layer p w)) scope b

  pub goal-Forall : (a : ℕ) (b : List Group) (c : GoalTree) → goal_offences p w scope (goal.Forall a b c) ≡ variables_offences p w b ++ goal_offences p w (bind b scope) c
  unfolding goal_offences
  goal-Forall a b c = ap (λ t. fold-GoalTree (List Typed → List Offence) (goal_layer p w) t scope) (sym (goal.rolls-Forall a b c))
      ∙ ap (λ f. f scope) (fold-roll-GoalTree (List Typed → List Offence) (goal_layer p w) (GoalTree-F.Forall a b c))

  pub goal-Preference : (a : ℕ) (b : Option Name) (c : SoftTree) → goal_offences p w scope (goal.Preference a b c) ≡ soft_offences p w scope c
  unfolding goal_offences
  goal-Preference a b c = ap (λ t. fold-GoalTree (List Typed → List Offence) (goal_layer p w) t scope) (sym (goal.rolls-Preference a b c))
      ∙ ap (λ f. f scope) (fold-roll-GoalTree (List Typed → List Offence) (goal_layer p w) (GoalTree-F.Preference a b c))

  pub effect-And : (a : ℕ) (b : List EffTree) → effect_offences p w scope (eff.And a b) ≡ flat_map (effect_offences p w scope) b
  unfolding effect_offences
  effect-And a b = ap (λ t. fold-EffTree (List Offence) (effect_layer p w scope) t) (sym (eff.rolls-And a b))
      ∙ fold-roll-EffTree (List Offence) (effect_layer p w scope) (EffTree-F.And a b)
      ∙ concat-map (fold-EffTree (List Offence) (effect_layer p w scope)) b

  pub effect-Add : (a : Atom) → effect_offences p w scope (eff.Add a) ≡ atom_offences p w scope a
  unfolding effect_offences
  effect-Add a = ap (λ t. fold-EffTree (List Offence) (effect_layer p w scope) t) (sym (eff.rolls-Add a))
      ∙ fold-roll-EffTree (List Offence) (effect_layer p w scope) (EffTree-F.Add a)

  pub effect-Delete : (a : ℕ) (b : Call) → effect_offences p w scope (eff.Delete a b) ≡ called_atom_offences p w scope b
  unfolding effect_offences
  effect-Delete a b = ap (λ t. fold-EffTree (List Offence) (effect_layer p w scope) t) (sym (eff.rolls-Delete a b))
      ∙ fold-roll-EffTree (List Offence) (effect_layer p w scope) (EffTree-F.Delete a b)

  pub timed_effect-And : (a : ℕ) (b : List TimedEff) → timed_effect_offences p w scope (teff.And a b) ≡ flat_map (timed_effect_offences p w scope) b
  unfolding timed_effect_offences
  timed_effect-And a b = ap (λ t. fold-TimedEff (List Offence) (timed_effect_layer p w scope) t) (sym (teff.rolls-And a b))
      ∙ fold-roll-TimedEff (List Offence) (timed_effect_layer p w scope) (TimedEff-F.And a b)
      ∙ concat-map (fold-TimedEff (List Offence) (timed_effect_layer p w scope)) b

  pub timed_effect-AtStart : (a : ℕ) (b : EffTree) → timed_effect_offences p w scope (teff.AtStart a b) ≡ effect_offences p w scope b
  unfolding timed_effect_offences
  timed_effect-AtStart a b = ap (λ t. fold-TimedEff (List Offence) (timed_effect_layer p w scope) t) (sym (teff.rolls-AtStart a b))
      ∙ fold-roll-TimedEff (List Offence) (timed_effect_layer p w scope) (TimedEff-F.AtStart a b)

  pub timed_effect-AtEnd : (a : ℕ) (b : EffTree) → timed_effect_offences p w scope (teff.AtEnd a b) ≡ effect_offences p w scope b
  unfolding timed_effect_offences
  timed_effect-AtEnd a b = ap (λ t. fold-TimedEff (List Offence) (timed_effect_layer p w scope) t) (sym (teff.rolls-AtEnd a b))
      ∙ fold-roll-TimedEff (List Offence) (timed_effect_layer p w scope) (TimedEff-F.AtEnd a b)

  pub timed_condition-And : (a : ℕ) (b : List TimedCond) → timed_condition_offences p w scope (tcond.And a b) ≡ flat_map (timed_condition_offences p w scope) b
  unfolding timed_condition_offences
  timed_condition-And a b = ap (λ t. fold-TimedCond (List Offence) (timed_condition_layer p w scope) t) (sym (tcond.rolls-And a b))
      ∙ fold-roll-TimedCond (List Offence) (timed_condition_layer p w scope) (TimedCond-F.And a b)
      ∙ concat-map (fold-TimedCond (List Offence) (timed_condition_layer p w scope)) b

  pub timed_condition-AtStart : (a : ℕ) (b : CondTree) → timed_condition_offences p w scope (tcond.AtStart a b) ≡ condition_offences p w scope b
  unfolding timed_condition_offences
  timed_condition-AtStart a b = ap (λ t. fold-TimedCond (List Offence) (timed_condition_layer p w scope) t) (sym (tcond.rolls-AtStart a b))
      ∙ fold-roll-TimedCond (List Offence) (timed_condition_layer p w scope) (TimedCond-F.AtStart a b)

  pub timed_condition-OverAll : (a : ℕ) (b : CondTree) → timed_condition_offences p w scope (tcond.OverAll a b) ≡ condition_offences p w scope b
  unfolding timed_condition_offences
  timed_condition-OverAll a b = ap (λ t. fold-TimedCond (List Offence) (timed_condition_layer p w scope) t) (sym (tcond.rolls-OverAll a b))
      ∙ fold-roll-TimedCond (List Offence) (timed_condition_layer p w scope) (TimedCond-F.OverAll a b)

  pub timed_condition-AtEnd : (a : ℕ) (b : CondTree) → timed_condition_offences p w scope (tcond.AtEnd a b) ≡ condition_offences p w scope b
  unfolding timed_condition_offences
  timed_condition-AtEnd a b = ap (λ t. fold-TimedCond (List Offence) (timed_condition_layer p w scope) t) (sym (tcond.rolls-AtEnd a b))
      ∙ fold-roll-TimedCond (List Offence) (timed_condition_layer p w scope) (TimedCond-F.AtEnd a b)

  pub soft-Formula : (a : FactForm) → soft_offences p w scope (soft.Formula a) ≡ formula_offences p w scope a
  unfolding soft_offences
  soft-Formula a = ap (λ t. fold-SoftTree (List Offence) (soft_layer p w scope) t) (sym (soft.rolls-Formula a))
      ∙ fold-roll-SoftTree (List Offence) (soft_layer p w scope) (SoftTree-F.Formula a)

  pub soft-Comparison : (a : CondTree) → soft_offences p w scope (soft.Comparison a) ≡ condition_offences p w scope a
  unfolding soft_offences
  soft-Comparison a = ap (λ t. fold-SoftTree (List Offence) (soft_layer p w scope) t) (sym (soft.rolls-Comparison a))
      ∙ fold-roll-SoftTree (List Offence) (soft_layer p w scope) (SoftTree-F.Comparison a)

  pub soft-And : (a : ℕ) (b : List SoftTree) → soft_offences p w scope (soft.And a b) ≡ flat_map (soft_offences p w scope) b
  unfolding soft_offences
  soft-And a b = ap (λ t. fold-SoftTree (List Offence) (soft_layer p w scope) t) (sym (soft.rolls-And a b))
      ∙ fold-roll-SoftTree (List Offence) (soft_layer p w scope) (SoftTree-F.And a b)
      ∙ concat-map (fold-SoftTree (List Offence) (soft_layer p w scope)) b
