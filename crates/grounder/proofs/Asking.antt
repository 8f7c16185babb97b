-- What a goal asks besides preferences, and the goals whose bindings can be gone through: what holds of the parts.
use Rattle.std.proofs.Common.{◌≡◌, refl, sym, ap, ap₂, subst, ◌∙◌, ℕ, zero, suc, ◌+◌, ◌<◌, ◌≤◌, arith, Bool, true, false, ◌||◌, nat_le, nat_eq, List, [], ◌∷◌, ◌++◌, map, length, take, get_or, Option, Some, None, is_some}
use Rattle.std.specs.List.{flat_map, list_all, list_any}
use Rattle.std.proofs.lemmas.Bool.Decides.{nat_tests}
use Rattle.std.proofs.lemmas.List.Folds.{list_any-append}
use Rattle.basics.proofs.Bools.{and_left, and_right, and_in, or_left, or_right, or_false}
use Rattle.basics.proofs.Naturals.{le_in, le_out}
use Rattle.basics.proofs.Lists.{all_left, all_right}
use Rattle.pddl_terms.specs.declared.trees.Name.{Name}
use Rattle.pddl_terms.specs.declared.trees.Group.{Group}
use Rattle.pddl_terms.specs.declared.trees.Comparison.{Comparison}
use Rattle.pddl_terms.specs.declared.trees.Comparison.TheVariants.{Equal, AtMost, AtLeast, Below, Above}
use Rattle.pddl_terms.specs.declared.trees.CondTree.{CondTree}
use Rattle.pddl_terms.specs.declared.trees.SoftTree.{SoftTree}
use Rattle.pddl_terms.specs.declared.trees.GoalTree.{GoalTree}
use Rattle.pddl_terms.specs.declared.trees.GoalTree.TheVariants as goal
use Rattle.pddl_terms.specs.declared.trees.GoalTree.TheOpen.{GoalTree-F}
use Rattle.ground_world.specs.World.{World, Env, columns}
use Rattle.ground_world.specs.Bindings.{bindings, choice_count}
use Rattle.ground_world.specs.Conditions.{Part, Lit, Same, Compares}
use Rattle.ground_world.specs.Leaves.{Named, within, goal_preferences}
use Rattle.ground_world.specs.Counts.{condition_count, compare_count, soft_count, hard_count, goal_count, goal_count_layer, somes, part_limit, binding_limit}
use Rattle.ground_world.proofs.Walks as below
use Rattle.ground_world.proofs.Steps.{taken}
use Rattle.grounder.specs.Terms.{goal_parts, goal_atoms}
use Rattle.grounder.specs.Asked.{count_of, all_count, written_count}
use Rattle.grounder.specs.Reach.{preference_fits, goal_fits, quantified_goal_fits}
use Rattle.grounder.proofs.Sizes.{weight, weights}
use Rattle.grounder.proofs.GoalSizes.{goal-parts_counted}
use Rattle.grounder.proofs.Within.{body_within, ways_within}
use Rattle.grounder.proofs.Reaching.{parts_few, all_inner, all_none, nothing_all, goal-unmentioned}

module _ (w : World) where
  -- ---- counts of lists

  -- an `and` counts the same wherever it stands
  and-count : (at : ℕ) (ns : List (Option ℕ)) → goal_count_layer w (GoalTree-F.And at ns) ≡ goal_count_layer w (GoalTree-F.And 0 ns)
  and-count at [] = refl
  and-count at (n ∷ ns) = refl

  pub hard-And : (at : ℕ) (gs : List GoalTree) → hard_count w (goal.And at gs) ≡ all_count w gs
  hard-And at gs = below.hard_count-And w at gs ∙ and-count at (map (hard_count w) gs)

  first_counts : (n : Option ℕ) (ns : List (Option ℕ)) → count_of n ≤ count_of (somes (n ∷ ns))
  first_counts None ns = omega arith
  first_counts (Some n) ns = omega arith

  rest_counts : (n : Option ℕ) (ns : List (Option ℕ)) → count_of (somes ns) ≤ count_of (somes (n ∷ ns))
  rest_counts None ns = omega arith
  rest_counts (Some n) ns = omega arith

  among_counts : (gs : List GoalTree) (i : ℕ) (g : GoalTree) → i < length gs → g ≡ get_or gs i g → count_of (hard_count w g) ≤ count_of (somes (map (hard_count w) gs))
  among_counts [] i g lt at = absurd (omega arith)
  among_counts (x ∷ gs) zero g lt at =
      let e : count_of (hard_count w g) ≡ count_of (hard_count w x) = ap (λ t. count_of (hard_count w t)) at in
      let h : count_of (hard_count w x) ≤ count_of (somes (map (hard_count w) (x ∷ gs))) = first_counts (hard_count w x) (map (hard_count w) gs) in
      omega arith
  among_counts (x ∷ gs) (suc i) g lt at =
      let h : count_of (hard_count w g) ≤ count_of (somes (map (hard_count w) gs)) = among_counts gs i g (omega arith) at in
      let k : count_of (somes (map (hard_count w) gs)) ≤ count_of (somes (map (hard_count w) (x ∷ gs))) = rest_counts (hard_count w x) (map (hard_count w) gs) in
      omega arith

  all_least : (gs : List GoalTree) → count_of (somes (map (hard_count w) gs)) ≤ count_of (all_count w gs)
  all_least [] = omega arith
  all_least (g ∷ gs) = omega arith

  -- each of some goals is within the limit where they are together
  pub goal_within : (gs : List GoalTree) (i : ℕ) (g : GoalTree) → i < length gs → g ≡ get_or gs i g → count_of (all_count w gs) ≤ part_limit → goal_count w g ≤ part_limit
  goal_within gs i g lt at h =
      let a : count_of (hard_count w g) ≤ count_of (somes (map (hard_count w) gs)) = among_counts gs i g lt at in
      let b : count_of (somes (map (hard_count w) gs)) ≤ count_of (all_count w gs) = all_least gs in
      omega arith

  pub and_within : (at : ℕ) (gs : List GoalTree) → goal_count w (goal.And at gs) ≤ part_limit → count_of (all_count w gs) ≤ part_limit
  and_within at gs h = subst (λ n. count_of n ≤ part_limit) (hard-And at gs) h

  pub condition_within : (c : CondTree) → goal_count w (goal.Condition c) ≤ part_limit → condition_count w c ≤ part_limit
  condition_within c h = subst (λ n. count_of n ≤ part_limit) (below.hard_count-Condition w c) h

  pub forall_within : (at : ℕ) (vars : List Group) (g : GoalTree) → goal_count w (goal.Forall at vars g) ≤ part_limit → count_of (written_count w vars (hard_count w g)) ≤ part_limit
  forall_within at vars g h = subst (λ n. count_of n ≤ part_limit) (below.hard_count-Forall w at vars g) h

  -- a quantified goal that asks something has few bindings
  pub few_ways : (vars : List Group) (n : Option ℕ) → is_some n ≡ true → count_of (written_count w vars n) ≤ part_limit → choice_count (columns w vars) ≤ binding_limit
  few_ways vars None e h = cc
  few_ways vars (Some k) e h = let m : choice_count (columns w vars) ≤ part_limit = ways_within w vars k part_limit h in omega arith

  -- the body is within the limit where the variables have a binding
  pub instance_within : (vars : List Group) (n : Option ℕ) → 0 < choice_count (columns w vars) → count_of (written_count w vars n) ≤ part_limit → count_of n ≤ part_limit
  instance_within vars None p h = omega arith
  instance_within vars (Some k) p h = body_within w vars k part_limit p h

  -- ---- whether something is asked

  abbrev pub asks : GoalTree → Bool
  asks g = is_some (hard_count w g)

  some_asked : (gs : List GoalTree) → is_some (somes (map (hard_count w) gs)) ≡ list_any asks gs
  some_asked [] = refl
  some_asked (g ∷ gs) = by (hard_count w g) (some_asked gs)
    where
      by : (n : Option ℕ) → is_some (somes (map (hard_count w) gs)) ≡ list_any asks gs → is_some (somes (n ∷ map (hard_count w) gs)) ≡ (is_some n || list_any asks gs)
      by None h = h
      by (Some n) h = refl

  found : (gs : List GoalTree) (i : ℕ) (g : GoalTree) → i < length gs → g ≡ get_or gs i g → asks g ≡ true → list_any asks gs ≡ true
  found [] i g lt at h = absurd (omega arith)
  found (x ∷ gs) zero g lt at h = or_left (asks x) (list_any asks gs) (sym (ap asks at) ∙ h)
  found (x ∷ gs) (suc i) g lt at h = or_right (asks x) (list_any asks gs) (found gs i g (omega arith) at h)

  pub asked_found : (gs : List GoalTree) (i : ℕ) (g : GoalTree) → i < length gs → g ≡ get_or gs i g → asks g ≡ true → is_some (all_count w gs) ≡ true
  asked_found [] i g lt at h = absurd (omega arith)
  asked_found (x ∷ gs) i g lt at h = some_asked (x ∷ gs) ∙ found (x ∷ gs) i g lt at h

  pub asked_none : (gs : List GoalTree) → list_any asks gs ≡ false → nat_eq (length gs) 0 ≡ is_some (all_count w gs)
  asked_none [] h = refl
  asked_none (g ∷ gs) h = let e : nat_eq (suc (length gs)) 0 ≡ false = grind (arith, nat_tests) in e ∙ sym (some_asked (g ∷ gs) ∙ h)

  -- ---- what asks nothing has no parts

  heavy : (p : Part) → 0 < weight p
  heavy (Lit a holds) = omega arith
  heavy (Same holds) = omega arith
  heavy (Compares t) = by t.order
    where
      by : (o : Comparison) → 0 < compare_count o
      by Equal = omega arith
      by AtMost = omega arith
      by AtLeast = omega arith
      by Below = omega arith
      by Above = omega arith

  weightless : (ps : List Part) → weights ps ≤ 0 → ps ≡ []
  weightless [] h = refl
  weightless (p ∷ ps) h = let k : 0 < weight p = heavy p in absurd (omega arith)

  pub nothing_asked : (g : GoalTree) → asks g ≡ false → (env : Env) → goal_parts w env g ≡ []
  nothing_asked g h env = weightless (goal_parts w env g) (by (hard_count w g) h (goal-parts_counted w g env))
    where
      by : (n : Option ℕ) → is_some n ≡ false → weights (goal_parts w env g) ≤ count_of n → weights (goal_parts w env g) ≤ 0
      by None e k = k
      by (Some n) e k = cc

  pub nothing_everywhere : (g : GoalTree) → asks g ≡ false → (es : List Env) → flat_map (λ e. goal_parts w e g) es ≡ []
  nothing_everywhere g h [] = refl
  nothing_everywhere g h (e ∷ es) = ap (λ l. l ++ flat_map (λ e. goal_parts w e g) es) (nothing_asked g h e) ∙ nothing_everywhere g h es

  -- ---- goals whose bindings can be gone through

  pub fitting_condition : (c : CondTree) → goal_fits w (goal.Condition c) ≡ true → condition_count w c ≤ part_limit
  fitting_condition c h = condition_within c (le_out (goal_count w (goal.Condition c)) part_limit (and_right _ _ h))

  pub fitting_preference : (at : ℕ) (n : Option Name) (s : SoftTree) → goal_fits w (goal.Preference at n s) ≡ true → soft_count w s ≤ part_limit
  fitting_preference at n s h =
      let one : 0 < 1 = omega arith in
      parts_few 1 (soft_count w s) one (and_left _ _ (subst (λ ls. list_all (preference_fits w) ls ≡ true) (below.goal_preferences-Preference at n s) (and_left _ _ h)))

  fitting_parts : (gs : List GoalTree) → list_all (preference_fits w) (flat_map (λ part. part) (map goal_preferences gs)) ≡ true → count_of (somes (map (hard_count w) gs)) ≤ part_limit
      → list_all (goal_fits w) gs ≡ true
  fitting_parts [] h k = refl
  fitting_parts (g ∷ gs) h k =
      let a : count_of (hard_count w g) ≤ count_of (somes (map (hard_count w) (g ∷ gs))) = first_counts (hard_count w g) (map (hard_count w) gs) in
      let b : count_of (somes (map (hard_count w) gs)) ≤ count_of (somes (map (hard_count w) (g ∷ gs))) = rest_counts (hard_count w g) (map (hard_count w) gs) in
      and_in (goal_fits w g) (list_all (goal_fits w) gs)
      (and_in (list_all (preference_fits w) (goal_preferences g)) (nat_le (count_of (hard_count w g)) part_limit)
      (all_left (preference_fits w) (goal_preferences g) (flat_map (λ part. part) (map goal_preferences gs)) h) (le_in (count_of (hard_count w g)) part_limit (omega arith)))
      (fitting_parts gs (all_right (preference_fits w) (goal_preferences g) (flat_map (λ part. part) (map goal_preferences gs)) h) (omega arith))

  pub fitting_and : (at : ℕ) (gs : List GoalTree) → goal_fits w (goal.And at gs) ≡ true → list_all (goal_fits w) gs ≡ true
  fitting_and at gs h =
      let a : count_of (hard_count w (goal.And at gs)) ≤ part_limit = le_out (count_of (hard_count w (goal.And at gs))) part_limit (and_right _ _ h) in
      let b : count_of (hard_count w (goal.And at gs)) ≡ count_of (all_count w gs) = ap count_of (hard-And at gs) in
      let c : count_of (somes (map (hard_count w) gs)) ≤ count_of (all_count w gs) = all_least gs in
      fitting_parts gs (subst (λ ls. list_all (preference_fits w) ls ≡ true) (below.goal_preferences-And at gs) (and_left _ _ h)) (omega arith)

  pub fitting_forall : (at : ℕ) (vars : List Group) (g : GoalTree) → goal_fits w (goal.Forall at vars g) ≡ true → quantified_goal_fits w vars g ≡ true
  fitting_forall at vars g h =
      and_in (list_all (preference_fits w) (within vars (goal_preferences g))) (nat_le (count_of (written_count w vars (hard_count w g))) part_limit)
      (subst (λ ls. list_all (preference_fits w) ls ≡ true) (below.goal_preferences-Forall at vars g) (and_left _ _ h))
      (subst (λ n. nat_le (count_of n) part_limit ≡ true) (below.hard_count-Forall w at vars g) (and_right _ _ h))

  pub fitting_instance : (vars : List Group) (g : GoalTree) → 0 < choice_count (columns w vars) → quantified_goal_fits w vars g ≡ true → goal_fits w g ≡ true
  fitting_instance vars g p h =
      and_in (list_all (preference_fits w) (goal_preferences g)) (nat_le (count_of (hard_count w g)) part_limit)
      (all_inner w (λ (x : Named SoftTree). soft_count w x.body) vars (goal_preferences g) p (and_left _ _ h))
      (le_in (count_of (hard_count w g)) part_limit (instance_within vars (hard_count w g) p (le_out (count_of (written_count w vars (hard_count w g))) part_limit (and_right _ _ h))))

  -- where the variables have too many bindings, the body mentions nothing
  too_many : (vars : List Group) (g : GoalTree) → binding_limit < choice_count (columns w vars) → quantified_goal_fits w vars g ≡ true → (env : Env) → goal_atoms w env g ≡ []
  too_many vars g p h env =
      goal-unmentioned w g (by (hard_count w g) (le_out (count_of (written_count w vars (hard_count w g))) part_limit (and_right _ _ h)))
      (all_none w (λ (x : Named SoftTree). soft_count w x.body) vars (goal_preferences g) p (and_left _ _ h)) env
    where
      by : (n : Option ℕ) → count_of (written_count w vars n) ≤ part_limit → n ≡ None
      by None k = refl
      by (Some n) k = let m : choice_count (columns w vars) ≤ part_limit = ways_within w vars n part_limit k in absurd (omega arith)

  pub none_mentioned : (env : Env) (vars : List Group) (g : GoalTree) → binding_limit < choice_count (columns w vars) → quantified_goal_fits w vars g ≡ true
      → flat_map (λ e. goal_atoms w e g) (bindings w env vars) ≡ []
  none_mentioned env vars g p h = nothing_all (λ e. goal_atoms w e g) (λ e. too_many vars g p h e) (bindings w env vars)

  -- ---- whether something is asked, variant by variant

  pub asks-Condition : {tree : GoalTree} {c : CondTree} → tree ≡ goal.Condition c → true ≡ asks tree
  asks-Condition {tree} {c} e = ap is_some (sym (ap (hard_count w) e ∙ below.hard_count-Condition w c))

  pub asks-And : {tree : GoalTree} {at : ℕ} {gs xs : List GoalTree} → tree ≡ goal.And at gs → xs ≡ gs → is_some (all_count w xs) ≡ asks tree
  asks-And {tree} {at} {gs} e x = ap (λ (l : List GoalTree). is_some (all_count w l)) x ∙ ap is_some (sym (ap (hard_count w) e ∙ hard-And at gs))

  some_written : (vars : List Group) (n : Option ℕ) → is_some n ≡ is_some (written_count w vars n)
  some_written vars None = refl
  some_written vars (Some k) = refl

  pub asks-Forall : {tree : GoalTree} {at : ℕ} {vars : List Group} {g x : GoalTree} → tree ≡ goal.Forall at vars g → x ≡ g → asks x ≡ asks tree
  asks-Forall {tree} {at} {vars} {g} e x = ap asks x ∙ some_written vars (hard_count w g) ∙ ap is_some (sym (ap (hard_count w) e ∙ below.hard_count-Forall w at vars g))

  pub asks-Preference : {tree : GoalTree} {at : ℕ} {n : Option Name} {s : SoftTree} → tree ≡ goal.Preference at n s → false ≡ asks tree
  asks-Preference {tree} {at} {n} {s} e = ap is_some (sym (ap (hard_count w) e ∙ below.hard_count-Preference w at n s))

  -- one goal more that asks nothing
  pub none_more : (gs : List GoalTree) (i : ℕ) (g : GoalTree) → i < length gs → g ≡ get_or gs i g → list_any asks (take i gs) ≡ false → asks g ≡ false → list_any asks (take (i + 1) gs) ≡ false
  none_more gs i g lt at h k =
      ap (list_any asks) (taken gs i g lt at) ∙ list_any-append asks (take i gs) (g ∷ [])
      ∙ ap₂ (λ a b. a || b) h (or_false (asks g) ∙ k)
