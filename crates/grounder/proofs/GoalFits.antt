-- Goals, preferences and constraints: their atoms are those that are mentioned, and their parts are counted.
use Rattle.std.proofs.Common.{◌≡◌, sym, subst, List, [], ◌∷◌, map, Option}
use Rattle.std.specs.List.{AllByRecursion as Each, flat_map}
use Rattle.basics.proofs.Lists.{each_left, each_right, each_map}
use Rattle.pddl_terms.specs.declared.trees.Group.{Group}
use Rattle.pddl_terms.specs.declared.trees.SoftTree.{SoftTree}
use Rattle.pddl_terms.specs.declared.trees.GoalTree.{GoalTree}
use Rattle.pddl_terms.specs.declared.trees.GoalTree.TheVariants as goal
use Rattle.pddl_terms.specs.declared.trees.Trajectory.{Trajectory}
use Rattle.pddl_terms.specs.declared.trees.ConForm.{ConForm}
use Rattle.pddl_terms.specs.declared.trees.ConForm.TheVariants as con
use Rattle.pddl_names.specs.Declarations.{Text}
use Rattle.ground_world.specs.World.{World, Env, GroundAtom}
use Rattle.ground_world.specs.Bindings.{bindings, nested_bindings}
use Rattle.ground_world.specs.Conditions.{Part, condition_parts}
use Rattle.ground_world.specs.Leaves.{Leaf, Named, within, goal_preferences, constraint_leaves}
use Rattle.ground_world.proofs.Walks as below
use Rattle.grounder.specs.Terms.{preference_parts, part_atoms, preference_atoms, goal_parts, goal_atoms, constraint_atoms, watched, watched_atoms}
use Rattle.grounder.proofs.Walks as walks
use Rattle.grounder.proofs.Inductions.{each_goal, each_constraint}
use Rattle.grounder.proofs.Each.{each_weaker, each_flat_map, flat_map_each}

pub each_swap : {X Y : Type 0} (R : X → Y → Type 0) (xs : List X) (ys : List Y) → Each (λ x. Each (R x) ys) xs → Each (λ y. Each (λ x. R x y) xs) ys
each_swap R xs [] h = tt
each_swap {X = X} {Y = Y} R xs (y ∷ ys) h = (firsts xs h, each_swap R xs ys (others xs h))
  where
    firsts : (zs : List X) → Each (λ x. Each (R x) (y ∷ ys)) zs → Each (λ x. R x y) zs
    firsts [] h = tt
    firsts (z ∷ zs) h = (h.0.0, firsts zs h.1)

    others : (zs : List X) → Each (λ x. Each (R x) (y ∷ ys)) zs → Each (λ x. Each (R x) ys) zs
    others [] h = tt
    others (z ∷ zs) h = (h.0.1, others zs h.1)

module _ (w : World) (Q : GroundAtom → Type 0) where
  -- ---- the goal

  abbrev Told : GoalTree → Type 0
  Told g = (env : Env) → Each Q (goal_atoms w env g) → Each (λ part. Each Q (part_atoms part)) (goal_parts w env g)

  told_from : (env : Env) (g : GoalTree) (own : List GroundAtom) (ps : List Part) → goal_atoms w env g ≡ own → goal_parts w env g ≡ ps
      → (Each Q own → Each (λ part. Each Q (part_atoms part)) ps) → Each Q (goal_atoms w env g) → Each (λ part. Each Q (part_atoms part)) (goal_parts w env g)
  told_from env g own ps a e f h = subst (λ xs. Each (λ part. Each Q (part_atoms part)) xs) (sym e) (f (subst (λ xs. Each Q xs) a h))

  told_all : (env : Env) (gs : List GoalTree) → Each Told gs → Each Q (flat_map (λ (part : Env → List GroundAtom). part env) (map (λ g env. goal_atoms w env g) gs))
      → Each (λ part. Each Q (part_atoms part)) (flat_map (λ (part : Env → List Part). part env) (map (λ g env. goal_parts w env g) gs))
  told_all env gs t h = each_flat_map (λ part. Each Q (part_atoms part)) (λ (part : Env → List Part). part env) (map (λ g env. goal_parts w env g) gs) (go gs t h)
    where
      go : (gs : List GoalTree) → Each Told gs → Each Q (flat_map (λ (part : Env → List GroundAtom). part env) (map (λ g env. goal_atoms w env g) gs))
          → Each (λ (part : Env → List Part). Each (λ p. Each Q (part_atoms p)) (part env)) (map (λ g env. goal_parts w env g) gs)
      go [] t h = tt
      go (g ∷ gs) t h = (
        t.0 env (each_left Q (goal_atoms w env g) (flat_map (λ (part : Env → List GroundAtom). part env) (map (λ g env. goal_atoms w env g) gs)) h),
        go gs t.1 (each_right Q (goal_atoms w env g) (flat_map (λ (part : Env → List GroundAtom). part env) (map (λ g env. goal_atoms w env g) gs)) h),
      )

  told_each : (g : GoalTree) → Told g → (es : List Env) → Each Q (flat_map (λ env. goal_atoms w env g) es)
      → Each (λ part. Each Q (part_atoms part)) (flat_map (λ env. goal_parts w env g) es)
  told_each g t es h = each_flat_map (λ part. Each Q (part_atoms part)) (λ env. goal_parts w env g) es
      (each_weaker (λ env. Each Q (goal_atoms w env g)) (λ env. Each (λ part. Each Q (part_atoms part)) (goal_parts w env g)) t es (flat_map_each Q (λ env. goal_atoms w env g) es h))

  pub goal-parts_mentioned : (g : GoalTree) → Told g
  goal-parts_mentioned = each_goal Told
      (λ c env. told_from env (goal.Condition c) _ _ (walks.goal_atoms-Condition w env c) (walks.goal_parts-Condition w env c) (λ h. flat_map_each Q part_atoms (condition_parts w env c) h))
      (λ a gs t env. told_from env (goal.And a gs) _ _ (walks.goal_atoms-And w env a gs) (walks.goal_parts-And w env a gs) (told_all env gs t))
      (λ a vars g t env. told_from env (goal.Forall a vars g) _ _ (walks.goal_atoms-Forall w env a vars g) (walks.goal_parts-Forall w env a vars g) (told_each g t (bindings w env vars)))
      (λ a n s env. told_from env (goal.Preference a n s) _ _ (walks.goal_atoms-Preference w env a n s) (walks.goal_parts-Preference w env a n s) (λ h. tt))

  -- ---- the preferences of the goal

  abbrev Asked : Env → Leaf (Named SoftTree) → Type 0
  Asked e l = Each (λ e. Each Q (flat_map (preference_atoms w e) (preference_parts w l.leaf.body))) (nested_bindings w e l.around)

  abbrev Preferred : GoalTree → Type 0
  Preferred g = (env : Env) → Each Q (goal_atoms w env g) → Each (Asked env) (goal_preferences g)

  preferred_from : (env : Env) (g : GoalTree) (own : List GroundAtom) (ls : List (Leaf (Named SoftTree))) → goal_atoms w env g ≡ own → goal_preferences g ≡ ls
      → (Each Q own → Each (Asked env) ls) → Each Q (goal_atoms w env g) → Each (Asked env) (goal_preferences g)
  preferred_from env g own ls a e f h = subst (λ xs. Each (Asked env) xs) (sym e) (f (subst (λ xs. Each Q xs) a h))

  preferred_all : (env : Env) (gs : List GoalTree) → Each Preferred gs → Each Q (flat_map (λ (part : Env → List GroundAtom). part env) (map (λ g env. goal_atoms w env g) gs))
      → Each (Asked env) (flat_map (λ (part : List (Leaf (Named SoftTree))). part) (map (λ g. goal_preferences g) gs))
  preferred_all env gs t h = each_flat_map (Asked env) (λ (part : List (Leaf (Named SoftTree))). part) (map (λ g. goal_preferences g) gs) (go gs t h)
    where
      go : (gs : List GoalTree) → Each Preferred gs → Each Q (flat_map (λ (part : Env → List GroundAtom). part env) (map (λ g env. goal_atoms w env g) gs))
          → Each (λ (part : List (Leaf (Named SoftTree))). Each (Asked env) part) (map (λ g. goal_preferences g) gs)
      go [] t h = tt
      go (g ∷ gs) t h = (
        t.0 env (each_left Q (goal_atoms w env g) (flat_map (λ (part : Env → List GroundAtom). part env) (map (λ g env. goal_atoms w env g) gs)) h),
        go gs t.1 (each_right Q (goal_atoms w env g) (flat_map (λ (part : Env → List GroundAtom). part env) (map (λ g env. goal_atoms w env g) gs)) h),
      )

  preferred_each : (env : Env) (vars : List Group) (g : GoalTree) → Preferred g → Each Q (flat_map (λ env. goal_atoms w env g) (bindings w env vars))
      → Each (Asked env) (within vars (goal_preferences g))
  preferred_each env vars g t h = each_map (Asked env) (λ l. record { around = vars ∷ l.around; leaf = l.leaf }) (goal_preferences g)
      (each_weaker (λ l. Each (λ e. Asked e l) (bindings w env vars)) (λ l. Asked env (record { around = vars ∷ l.around; leaf = l.leaf }))
      (λ l k. each_flat_map (λ e. Each Q (flat_map (preference_atoms w e) (preference_parts w l.leaf.body))) (λ e. nested_bindings w e l.around) (bindings w env vars) k)
      (goal_preferences g)
      (each_swap Asked (bindings w env vars) (goal_preferences g)
      (each_weaker (λ env. Each Q (goal_atoms w env g)) (λ e. Each (Asked e) (goal_preferences g)) t (bindings w env vars) (flat_map_each Q (λ env. goal_atoms w env g) (bindings w env vars) h))))

  pub preferences-mentioned : (g : GoalTree) → Preferred g
  preferences-mentioned = each_goal Preferred
      (λ c env. preferred_from env (goal.Condition c) _ _ (walks.goal_atoms-Condition w env c) (below.goal_preferences-Condition c) (λ h. tt))
      (λ a gs t env. preferred_from env (goal.And a gs) _ _ (walks.goal_atoms-And w env a gs) (below.goal_preferences-And a gs) (preferred_all env gs t))
      (λ a vars g t env. preferred_from env (goal.Forall a vars g) _ _ (walks.goal_atoms-Forall w env a vars g) (below.goal_preferences-Forall a vars g) (preferred_each env vars g t))
      (λ a n s env. preferred_from env (goal.Preference a n s) _ _ (walks.goal_atoms-Preference w env a n s) (below.goal_preferences-Preference a n s) (λ h. ((h, tt), tt)))

  -- ---- constraints

  abbrev Kept : Env → Leaf (Option Text × Trajectory) → Type 0
  Kept e l = Each (λ e. Each Q (watched_atoms w e (watched l.leaf.1))) (nested_bindings w e l.around)

  abbrev Constrained : ConForm → Type 0
  Constrained c = (env : Env) → Each Q (constraint_atoms w env c) → Each (Kept env) (constraint_leaves c)

  constrained_from : (env : Env) (c : ConForm) (own : List GroundAtom) (ls : List (Leaf (Option Text × Trajectory))) → constraint_atoms w env c ≡ own → constraint_leaves c ≡ ls
      → (Each Q own → Each (Kept env) ls) → Each Q (constraint_atoms w env c) → Each (Kept env) (constraint_leaves c)
  constrained_from env c own ls a e f h = subst (λ xs. Each (Kept env) xs) (sym e) (f (subst (λ xs. Each Q xs) a h))

  constrained_all : (env : Env) (cs : List ConForm) → Each Constrained cs → Each Q (flat_map (λ (part : Env → List GroundAtom). part env) (map (λ c env. constraint_atoms w env c) cs))
      → Each (Kept env) (flat_map (λ (part : List (Leaf (Option Text × Trajectory))). part) (map (λ c. constraint_leaves c) cs))
  constrained_all env cs t h = each_flat_map (Kept env) (λ (part : List (Leaf (Option Text × Trajectory))). part) (map (λ c. constraint_leaves c) cs) (go cs t h)
    where
      go : (cs : List ConForm) → Each Constrained cs → Each Q (flat_map (λ (part : Env → List GroundAtom). part env) (map (λ c env. constraint_atoms w env c) cs))
          → Each (λ (part : List (Leaf (Option Text × Trajectory))). Each (Kept env) part) (map (λ c. constraint_leaves c) cs)
      go [] t h = tt
      go (c ∷ cs) t h = (
        t.0 env (each_left Q (constraint_atoms w env c) (flat_map (λ (part : Env → List GroundAtom). part env) (map (λ c env. constraint_atoms w env c) cs)) h),
        go cs t.1 (each_right Q (constraint_atoms w env c) (flat_map (λ (part : Env → List GroundAtom). part env) (map (λ c env. constraint_atoms w env c) cs)) h),
      )

  constrained_each : (env : Env) (vars : List Group) (c : ConForm) → Constrained c → Each Q (flat_map (λ env. constraint_atoms w env c) (bindings w env vars))
      → Each (Kept env) (within vars (constraint_leaves c))
  constrained_each env vars c t h = each_map (Kept env) (λ l. record { around = vars ∷ l.around; leaf = l.leaf }) (constraint_leaves c)
      (each_weaker (λ l. Each (λ e. Kept e l) (bindings w env vars)) (λ l. Kept env (record { around = vars ∷ l.around; leaf = l.leaf }))
      (λ l k. each_flat_map (λ e. Each Q (watched_atoms w e (watched l.leaf.1))) (λ e. nested_bindings w e l.around) (bindings w env vars) k)
      (constraint_leaves c)
      (each_swap Kept (bindings w env vars) (constraint_leaves c)
      (each_weaker (λ env. Each Q (constraint_atoms w env c)) (λ e. Each (Kept e) (constraint_leaves c)) t (bindings w env vars) (flat_map_each Q (λ env. constraint_atoms w env c) (bindings w env vars) h))))

  pub constraints-mentioned : (c : ConForm) → Constrained c
  constraints-mentioned = each_constraint Constrained
      (λ a cs t env. constrained_from env (con.And a cs) _ _ (walks.constraint_atoms-And w env a cs) (below.constraint_leaves-And a cs) (constrained_all env cs t))
      (λ a vars c t env. constrained_from env (con.Forall a vars c) _ _ (walks.constraint_atoms-Forall w env a vars c) (below.constraint_leaves-Forall a vars c) (constrained_each env vars c t))
      (λ t env. constrained_from env (con.Hard t) _ _ (walks.constraint_atoms-Hard w env t) (below.constraint_leaves-Hard t) (λ h. ((h, tt), tt)))
      (λ a n t env. constrained_from env (con.Preference a n t) _ _ (walks.constraint_atoms-Preference w env a n t) (below.constraint_leaves-Preference a n t) (λ h. ((h, tt), tt)))
