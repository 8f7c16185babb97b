-- What the parts of a goal, and the atoms that goals and constraints mention, come to at each variant.
use Rattle.std.proofs.Common.{◌≡◌, sym, ap, ap₂, ◌∙◌, ℕ, List, [], Option}
use Rattle.std.specs.List.{flat_map}
use Rattle.std.proofs.lemmas.List.Folds.{flat_map-map}
use Rattle.pddl_terms.specs.declared.trees.Name.{Name}
use Rattle.pddl_terms.specs.declared.trees.Group.{Group}
use Rattle.pddl_terms.specs.declared.trees.CondTree.{CondTree}
use Rattle.pddl_terms.specs.declared.trees.SoftTree.{SoftTree}
use Rattle.pddl_terms.specs.declared.trees.GoalTree.{GoalTree}
use Rattle.pddl_terms.specs.declared.trees.GoalTree.TheVariants as goal
use Rattle.pddl_terms.specs.declared.trees.Trajectory.{Trajectory}
use Rattle.pddl_terms.specs.declared.trees.ConForm.{ConForm}
use Rattle.pddl_terms.specs.declared.trees.ConForm.TheVariants as con
use Rattle.ground_world.specs.World.{World, Env, GroundAtom}
use Rattle.ground_world.specs.Bindings.{bindings}
use Rattle.ground_world.specs.Conditions.{Part, condition_parts}
use Rattle.grounder.specs.Terms.{part_atoms, preference_parts, preference_atoms, watched, watched_atoms, goal_parts, goal_atoms, constraint_atoms}
use Rattle.grounder.proofs.Walks as walk

module _ (w : World) (env : Env) {tree : GoalTree} where
  pub goal-Condition : {c : CondTree} → tree ≡ goal.Condition c → condition_parts w env c ≡ goal_parts w env tree
  goal-Condition {c} e = sym (ap (goal_parts w env) e ∙ walk.goal_parts-Condition w env c)

  pub goal-Preference : {at : ℕ} {n : Option Name} {s : SoftTree} → tree ≡ goal.Preference at n s → [] ≡ goal_parts w env tree
  goal-Preference {at} {n} {s} e = sym (ap (goal_parts w env) e ∙ walk.goal_parts-Preference w env at n s)

  pub goal-And : {at : ℕ} {gs xs : List GoalTree} → tree ≡ goal.And at gs → xs ≡ gs → flat_map (goal_parts w env) xs ≡ goal_parts w env tree
  goal-And {at} {gs} e x =
      ap (flat_map (goal_parts w env)) x ∙ sym (flat_map-map (λ (p : Env → List Part). p env) (λ c e. goal_parts w e c) gs)
      ∙ sym (ap (goal_parts w env) e ∙ walk.goal_parts-And w env at gs)

  pub goal-Forall : {at : ℕ} {vars xs : List Group} {g x : GoalTree} → tree ≡ goal.Forall at vars g → xs ≡ vars → x ≡ g
      → flat_map (λ e. goal_parts w e x) (bindings w env xs) ≡ goal_parts w env tree
  goal-Forall {at} {vars} {xs} {g} e x y =
      ap₂ (λ (t : GoalTree) (gs : List Group). flat_map (λ e. goal_parts w e t) (bindings w env gs)) y x
      ∙ sym (ap (goal_parts w env) e ∙ walk.goal_parts-Forall w env at vars g)

  pub mentioned-Condition : {c : CondTree} → tree ≡ goal.Condition c → flat_map part_atoms (condition_parts w env c) ≡ goal_atoms w env tree
  mentioned-Condition {c} e = sym (ap (goal_atoms w env) e ∙ walk.goal_atoms-Condition w env c)

  pub mentioned-Preference : {at : ℕ} {n : Option Name} {s : SoftTree} → tree ≡ goal.Preference at n s → flat_map (preference_atoms w env) (preference_parts w s) ≡ goal_atoms w env tree
  mentioned-Preference {at} {n} {s} e = sym (ap (goal_atoms w env) e ∙ walk.goal_atoms-Preference w env at n s)

  pub mentioned-And : {at : ℕ} {gs xs : List GoalTree} → tree ≡ goal.And at gs → xs ≡ gs → flat_map (goal_atoms w env) xs ≡ goal_atoms w env tree
  mentioned-And {at} {gs} e x =
      ap (flat_map (goal_atoms w env)) x ∙ sym (flat_map-map (λ (p : Env → List GroundAtom). p env) (λ c e. goal_atoms w e c) gs)
      ∙ sym (ap (goal_atoms w env) e ∙ walk.goal_atoms-And w env at gs)

  pub mentioned-Forall : {at : ℕ} {vars xs : List Group} {g x : GoalTree} → tree ≡ goal.Forall at vars g → xs ≡ vars → x ≡ g
      → flat_map (λ e. goal_atoms w e x) (bindings w env xs) ≡ goal_atoms w env tree
  mentioned-Forall {at} {vars} {xs} {g} e x y =
      ap₂ (λ (t : GoalTree) (gs : List Group). flat_map (λ e. goal_atoms w e t) (bindings w env gs)) y x
      ∙ sym (ap (goal_atoms w env) e ∙ walk.goal_atoms-Forall w env at vars g)

module _ (w : World) (env : Env) {tree : ConForm} where
  pub constrained-And : {at : ℕ} {cs xs : List ConForm} → tree ≡ con.And at cs → xs ≡ cs → flat_map (constraint_atoms w env) xs ≡ constraint_atoms w env tree
  constrained-And {at} {cs} e x =
      ap (flat_map (constraint_atoms w env)) x ∙ sym (flat_map-map (λ (p : Env → List GroundAtom). p env) (λ c e. constraint_atoms w e c) cs)
      ∙ sym (ap (constraint_atoms w env) e ∙ walk.constraint_atoms-And w env at cs)

  pub constrained-Forall : {at : ℕ} {vars xs : List Group} {c x : ConForm} → tree ≡ con.Forall at vars c → xs ≡ vars → x ≡ c
      → flat_map (λ e. constraint_atoms w e x) (bindings w env xs) ≡ constraint_atoms w env tree
  constrained-Forall {at} {vars} {xs} {c} e x y =
      ap₂ (λ (t : ConForm) (gs : List Group). flat_map (λ e. constraint_atoms w e t) (bindings w env gs)) y x
      ∙ sym (ap (constraint_atoms w env) e ∙ walk.constraint_atoms-Forall w env at vars c)

  pub constrained-Hard : {t : Trajectory} → tree ≡ con.Hard t → watched_atoms w env (watched t) ≡ constraint_atoms w env tree
  constrained-Hard {t} e = sym (ap (constraint_atoms w env) e ∙ walk.constraint_atoms-Hard w env t)

  pub constrained-Preference : {at : ℕ} {n : Option Name} {t : Trajectory} → tree ≡ con.Preference at n t → watched_atoms w env (watched t) ≡ constraint_atoms w env tree
  constrained-Preference {at} {n} {t} e = sym (ap (constraint_atoms w env) e ∙ walk.constraint_atoms-Preference w env at n t)
