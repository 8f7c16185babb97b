-- Leaves inside variables that have many bindings, and goals and constraints of which no leaf has an instance.
use Rattle.std.proofs.Common.{◌≡◌, ◌⊎◌, inl, inr, refl, subst, sym, ap, ap₂, ◌∙◌, ℕ, zero, suc, ◌*◌, ◌<◌, ◌≤◌, arith, Bool, true, false, not, ◌||◌, nat_le, nat_lt, List, [], ◌∷◌, ◌++◌, map, Option, Some, None}
use Rattle.std.specs.List.{AllByRecursion as Each, flat_map, list_all}
use Rattle.std.proofs.Math.Nat.{le-mul_of_pos_right, mul_comm}
use Rattle.std.proofs.lemmas.List.{nil_from_length}
use Rattle.basics.proofs.Bools.{and_left, and_right, and_in, or_left, or_right}
use Rattle.basics.proofs.Naturals.{lt_in, lt_out, le_in, le_out}
use Rattle.basics.proofs.Lists.{each_left, each_right}
use Rattle.pddl_terms.specs.declared.trees.Group.{Group}
use Rattle.pddl_terms.specs.declared.trees.GoalTree.{GoalTree}
use Rattle.pddl_terms.specs.declared.trees.GoalTree.TheVariants as goal
use Rattle.pddl_terms.specs.declared.trees.ConForm.{ConForm}
use Rattle.pddl_terms.specs.declared.trees.ConForm.TheVariants as con
use Rattle.ground_world.specs.World.{World, Env, either, columns, GroundAtom}
use Rattle.ground_world.specs.Bindings.{bindings, choice_count}
use Rattle.ground_world.specs.Leaves.{Leaf, within, goal_preferences, constraint_leaves}
use Rattle.ground_world.specs.Counts.{condition_count, hard_count, somes, written_out, around_count, fit_limits, part_limit, binding_limit}
use Rattle.ground_world.proofs.Walks as below
use Rattle.grounder.specs.Terms.{goal_atoms, constraint_atoms}
use Rattle.grounder.proofs.Walks as walk
use Rattle.grounder.proofs.Inductions.{each_goal, each_constraint}
use Rattle.grounder.proofs.Sizes.{length-bindings}

-- ---- limits

pub outer_few : (outer parts : ℕ) → fit_limits outer parts ≡ true → outer ≤ binding_limit
outer_few outer parts h = le_out outer binding_limit (and_left _ _ h)

pub parts_few : (outer parts : ℕ) → 0 < outer → fit_limits outer parts ≡ true → parts ≤ part_limit
parts_few outer parts p h = by (nat_le parts part_limit) refl (nat_lt 0 outer) (lt_in 0 outer p) (and_right _ _ h)
  where
    by : (a : Bool) → nat_le parts part_limit ≡ a → (b : Bool) → b ≡ true → (a || not b) ≡ true → parts ≤ part_limit
    by true e b k h = le_out parts part_limit e
    by false e true k h = cc
    by false e false k h = cc

fit : (outer parts : ℕ) → outer ≤ binding_limit → (0 < outer → parts ≤ part_limit) → fit_limits outer parts ≡ true
fit outer parts h k = and_in (nat_le outer binding_limit) (nat_le parts part_limit || not (nat_lt 0 outer)) (le_in outer binding_limit h) (by (nat_lt 0 outer) refl)
  where
    by : (b : Bool) → nat_lt 0 outer ≡ b → (nat_le parts part_limit || not b) ≡ true
    by true e = or_left (nat_le parts part_limit) false (le_in parts part_limit (k (lt_out 0 outer e)))
    by false e = or_right (nat_le parts part_limit) true refl

inner_fits : (ways inner parts : ℕ) → 0 < ways → fit_limits (ways * inner) parts ≡ true → fit_limits inner parts ≡ true
inner_fits ways inner parts p h =
    let a : ways * inner ≤ binding_limit = outer_few (ways * inner) parts h in
    let b : inner ≤ inner * ways = le-mul_of_pos_right inner p in
    let c : inner * ways ≡ ways * inner = mul_comm inner ways in
    fit inner parts (omega arith) (λ q. parts_few (ways * inner) parts (omega arith) h)

none_inside : (ways inner parts : ℕ) → binding_limit < ways → fit_limits (ways * inner) parts ≡ true → inner ≡ 0
none_inside ways zero parts p h = refl
none_inside ways (suc n) parts p h =
    let a : ways * suc n ≤ binding_limit = outer_few (ways * suc n) parts h in
    let k : 0 < suc n = omega arith in
    let b : ways ≤ ways * suc n = le-mul_of_pos_right ways k in
    absurd (omega arith)

-- ---- leaves inside variables

module _ (w : World) {A : Type 0} (size : A → ℕ) where
  abbrev pub fits : Leaf A → Bool
  fits l = fit_limits (around_count w l.around) (size l.leaf)

  pub all_inner : (vars : List Group) (ls : List (Leaf A)) → 0 < choice_count (columns w vars) → list_all fits (within vars ls) ≡ true → list_all fits ls ≡ true
  all_inner vars [] p h = refl
  all_inner vars (l ∷ ls) p h =
      and_in (fits l) (list_all fits ls) (inner_fits (choice_count (columns w vars)) (around_count w l.around) (size l.leaf) p (and_left _ _ h)) (all_inner vars ls p (and_right _ _ h))

  pub all_none : (vars : List Group) (ls : List (Leaf A)) → binding_limit < choice_count (columns w vars) → list_all fits (within vars ls) ≡ true → Each (λ (l : Leaf A). around_count w l.around ≡ 0) ls
  all_none vars [] p h = tt
  all_none vars (l ∷ ls) p h =
      (none_inside (choice_count (columns w vars)) (around_count w l.around) (size l.leaf) p (and_left _ _ h), all_none vars ls p (and_right _ _ h))

-- ---- what has no instance mentions nothing

no_bindings : (w : World) (env : Env) (vars : List Group) → choice_count (columns w vars) ≡ 0 → bindings w env vars ≡ []
no_bindings w env vars h = nil_from_length (bindings w env vars) (length-bindings w env vars ∙ h)

zero_factor : (a b : ℕ) → a * b ≡ 0 → ¬ (a ≡ 0) → b ≡ 0
zero_factor a zero h k = refl
zero_factor a (suc b) h k =
    let p : 0 < suc b = omega arith in
    let l : a ≤ a * suc b = le-mul_of_pos_right a p in
    let z : a ≡ 0 = omega arith in
    absurd (k z)

module _ (w : World) {A : Type 0} where
  abbrev pub Nowhere : List (Leaf A) → Type 0
  Nowhere ls = Each (λ (l : Leaf A). around_count w l.around ≡ 0) ls

  -- variables that have bindings hide nothing
  inner_nowhere : (vars : List Group) (ls : List (Leaf A)) → ¬ (choice_count (columns w vars) ≡ 0) → Nowhere (within vars ls) → Nowhere ls
  inner_nowhere vars [] k h = tt
  inner_nowhere vars (l ∷ ls) k h = (zero_factor (choice_count (columns w vars)) (around_count w l.around) h.0 k, inner_nowhere vars ls k h.1)

nothing_each : {X Y : Type 0} (f : X → List Y) → (xs : List X) → Each (λ x. f x ≡ []) xs → flat_map f xs ≡ []
nothing_each f [] h = refl
nothing_each f (x ∷ xs) h = ap₂ (λ a b. a ++ b) h.0 (nothing_each f xs h.1)

pub nothing_all : {X Y : Type 0} (f : X → List Y) → ((x : X) → f x ≡ []) → (xs : List X) → flat_map f xs ≡ []
nothing_all f h [] = refl
nothing_all f h (x ∷ xs) = ap₂ (λ a b. a ++ b) (h x) (nothing_all f h xs)

is_zero : (n : ℕ) → (n ≡ 0) ⊎ (¬ (n ≡ 0))
is_zero zero = inl refl
is_zero (suc n) = inr (λ (e : suc n ≡ 0). omega arith)

module _ (w : World) where
  abbrev pub Unmentioned : GoalTree → Type 0
  Unmentioned g = hard_count w g ≡ None → Nowhere w (goal_preferences g) → (env : Env) → goal_atoms w env g ≡ []

  none_first : (n : Option ℕ) (ns : List (Option ℕ)) → somes (n ∷ ns) ≡ None → n ≡ None
  none_first None ns h = refl
  none_first (Some n) ns h = cc

  none_rest : (n : Option ℕ) (ns : List (Option ℕ)) → somes (n ∷ ns) ≡ None → somes ns ≡ None
  none_rest None ns h = h
  none_rest (Some n) ns h = cc

  each_unmentioned : (gs : List GoalTree) → Each Unmentioned gs → somes (map (λ g. hard_count w g) gs) ≡ None
      → Nowhere w (flat_map (λ part. part) (map (λ g. goal_preferences g) gs)) → (env : Env) → flat_map (λ (part : Env → List GroundAtom). part env) (map (λ g env. goal_atoms w env g) gs) ≡ []
  each_unmentioned [] ih h k env = refl
  each_unmentioned (g ∷ gs) ih h k env =
      ap₂ (λ a b. a ++ b)
      (ih.0 (none_first (hard_count w g) (map (λ g. hard_count w g) gs) h) (each_left _ (goal_preferences g) (flat_map (λ part. part) (map (λ g. goal_preferences g) gs)) k) env)
      (each_unmentioned gs ih.1 (none_rest (hard_count w g) (map (λ g. hard_count w g) gs) h) (each_right _ (goal_preferences g) (flat_map (λ part. part) (map (λ g. goal_preferences g) gs)) k) env)

  of_And : (a : ℕ) (gs : List GoalTree) → Each Unmentioned gs → Unmentioned (goal.And a gs)
  of_And a [] ih h k env = let e = sym h ∙ below.hard_count-And w a [] in cc
  of_And a (g ∷ gs) ih h k env =
      walk.goal_atoms-And w env a (g ∷ gs)
      ∙ each_unmentioned (g ∷ gs) ih (sym (below.hard_count-And w a (g ∷ gs)) ∙ h) (subst (Nowhere w) (below.goal_preferences-And a (g ∷ gs)) k) env

  none_below : (vars : List Group) (n : Option ℕ) → either None (λ k. Some (written_out w vars k)) n ≡ None → n ≡ None
  none_below vars None h = refl
  none_below vars (Some n) h = cc

  of_Forall : (a : ℕ) (vars : List Group) (g : GoalTree) → Unmentioned g → Unmentioned (goal.Forall a vars g)
  of_Forall a vars g ih h k env = walk.goal_atoms-Forall w env a vars g ∙ by (is_zero (choice_count (columns w vars)))
    where
      by : (choice_count (columns w vars) ≡ 0) ⊎ (¬ (choice_count (columns w vars) ≡ 0)) → flat_map (λ e. goal_atoms w e g) (bindings w env vars) ≡ []
      by (inl z) = ap (flat_map (λ e. goal_atoms w e g)) (no_bindings w env vars z)
      by (inr z) =
          nothing_all (λ e. goal_atoms w e g)
          (ih (none_below vars (hard_count w g) (sym (below.hard_count-Forall w a vars g) ∙ h)) (inner_nowhere w vars (goal_preferences g) z (subst (Nowhere w) (below.goal_preferences-Forall a vars g) k)))
          (bindings w env vars)

  pub goal-unmentioned : (g : GoalTree) → Unmentioned g
  goal-unmentioned = each_goal Unmentioned
      (λ c h k env. let e : Some (condition_count w c) ≡ None = sym (below.hard_count-Condition w c) ∙ h in cc)
      of_And of_Forall
      (λ a n s h k env. let e = subst (Nowhere w) (below.goal_preferences-Preference a n s) k in let z : 1 ≡ 0 = e.0 in absurd (omega arith))

  abbrev pub Unconstrained : ConForm → Type 0
  Unconstrained c = Nowhere w (constraint_leaves c) → (env : Env) → constraint_atoms w env c ≡ []

  each_unconstrained : (cs : List ConForm) → Each Unconstrained cs → Nowhere w (flat_map (λ part. part) (map (λ c. constraint_leaves c) cs))
      → (env : Env) → flat_map (λ (part : Env → List GroundAtom). part env) (map (λ c env. constraint_atoms w env c) cs) ≡ []
  each_unconstrained [] ih k env = refl
  each_unconstrained (c ∷ cs) ih k env =
      ap₂ (λ a b. a ++ b)
      (ih.0 (each_left _ (constraint_leaves c) (flat_map (λ part. part) (map (λ c. constraint_leaves c) cs)) k) env)
      (each_unconstrained cs ih.1 (each_right _ (constraint_leaves c) (flat_map (λ part. part) (map (λ c. constraint_leaves c) cs)) k) env)

  con_Forall : (a : ℕ) (vars : List Group) (c : ConForm) → Unconstrained c → Unconstrained (con.Forall a vars c)
  con_Forall a vars c ih k env = walk.constraint_atoms-Forall w env a vars c ∙ by (is_zero (choice_count (columns w vars)))
    where
      by : (choice_count (columns w vars) ≡ 0) ⊎ (¬ (choice_count (columns w vars) ≡ 0)) → flat_map (λ e. constraint_atoms w e c) (bindings w env vars) ≡ []
      by (inl z) = ap (flat_map (λ e. constraint_atoms w e c)) (no_bindings w env vars z)
      by (inr z) =
          nothing_all (λ e. constraint_atoms w e c)
          (ih (inner_nowhere w vars (constraint_leaves c) z (subst (Nowhere w) (below.constraint_leaves-Forall a vars c) k)))
          (bindings w env vars)

  pub constraint-unmentioned : (c : ConForm) → Unconstrained c
  constraint-unmentioned = each_constraint Unconstrained
      (λ a cs ih k env. walk.constraint_atoms-And w env a cs ∙ each_unconstrained cs ih (subst (Nowhere w) (below.constraint_leaves-And a cs) k) env)
      con_Forall
      (λ t k env. let e = subst (Nowhere w) (below.constraint_leaves-Hard t) k in let z : 1 ≡ 0 = e.0 in absurd (omega arith))
      (λ a n t k env. let e = subst (Nowhere w) (below.constraint_leaves-Preference a n t) k in let z : 1 ≡ 0 = e.0 in absurd (omega arith))
