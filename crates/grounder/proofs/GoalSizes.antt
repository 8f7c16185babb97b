-- How many parts goals, preferences and constraints have.
use Rattle.std.proofs.Common.{◌≡◌, ◌⊎◌, inl, inr, refl, ap, ◌∙◌, ℕ, ◌+◌, ◌*◌, ◌<◌, ◌≤◌, arith, Bool, true, false, not, ◌&&◌, ◌||◌, nat_lt, nat_le, List, [], ◌∷◌, ◌++◌, map, length, Option, Some, None}
use Rattle.std.specs.Prelude.{if◌then◌else◌}
use Rattle.std.specs.List.{AllByRecursion as Each, flat_map}
use Rattle.std.proofs.lemmas.Bool.Decides.{nat_tests}
use Rattle.std.proofs.lemmas.List.{length-append, nil_from_length}
use Rattle.basics.proofs.Naturals.{le_out}
use Rattle.pddl_terms.specs.declared.trees.Comparison.{Comparison}
use Rattle.pddl_terms.specs.declared.trees.Comparison.TheVariants.{Equal, AtMost, AtLeast, Below, Above}
use Rattle.pddl_terms.specs.declared.trees.Group.{Group}
use Rattle.pddl_terms.specs.declared.trees.Side.{Side}
use Rattle.pddl_terms.specs.declared.trees.CondTree.TheVariants as cond
use Rattle.pddl_terms.specs.declared.trees.FactForm.TheVariants as form
use Rattle.pddl_terms.specs.declared.trees.SoftTree.{SoftTree}
use Rattle.pddl_terms.specs.declared.trees.SoftTree.TheVariants as soft
use Rattle.pddl_terms.specs.declared.trees.GoalTree.{GoalTree}
use Rattle.pddl_terms.specs.declared.trees.GoalTree.TheVariants as goal
use Rattle.pddl_names.specs.Equalities.{is_equality}
use Rattle.exact_lin.specs.Forms.{LinearForm}
use Rattle.ground_world.specs.World.{World, Env, either, GroundAtom, symbol}
use Rattle.ground_world.specs.Bindings.{bindings, nested_bindings}
use Rattle.ground_world.specs.Conditions.{Part, Lit, Same, Compares, Test, difference, condition_parts, tests_in, forms_of}
use Rattle.ground_world.specs.Counts.{condition_count, compare_count, formula_count, soft_count, hard_count, goal_count, somes, together, sum_or_one, written_out, equal_count, around_count, fit_limits}
use Rattle.ground_world.proofs.Walks as below
use Rattle.ground_world.proofs.PartSteps.{sum-least}
use Rattle.grounder.specs.Terms.{PreferencePart, OfFacts, OfNumbers, equal_preference, preference_parts, formulas_in, comparisons_in, goal_parts}
use Rattle.ground_world.specs.Expressions.{form_or_zero}
use Rattle.grounder.specs.Instances.{no_unknowns}
use Rattle.grounder.specs.Task.{Ground, over_fluents, compared, forms_in, goal_forms_in, dynamic_literal, literal_of}
use Rattle.grounder.proofs.Walks as walks
use Rattle.grounder.proofs.Inductions.{each_goal, each_preference}
use Rattle.grounder.proofs.Sizes.{weight, weights, weights-append, weights-written, condition-counted, length-bindings}
use Rattle.grounder.proofs.FormulaFits.{formula-counts}

-- ---- the goal without its preferences

abbrev amount : Option ℕ → ℕ
amount o = either 0 (λ n. n) o

somes-sum : (n : Option ℕ) (ns : List (Option ℕ)) → amount (somes (n ∷ ns)) ≡ amount n + amount (somes ns)
somes-sum None ns = omega arith
somes-sum (Some m) ns = refl

module _ (w : World) where
  abbrev Counted : GoalTree → Type 0
  Counted g = (env : Env) → weights (goal_parts w env g) ≤ amount (hard_count w g)

  goals-together : (gs : List GoalTree) (env : Env) → Each Counted gs
      → weights (flat_map (λ (part : Env → List Part). part env) (map (λ g env. goal_parts w env g) gs)) ≤ amount (somes (map (λ g. hard_count w g) gs))
  goals-together [] env h = omega arith
  goals-together (g ∷ gs) env h =
      let own : weights (goal_parts w env g) ≤ amount (hard_count w g) = h.0 env in
      let ih : weights (flat_map (λ (part : Env → List Part). part env) (map (λ g env. goal_parts w env g) gs)) ≤ amount (somes (map (λ g. hard_count w g) gs)) = goals-together gs env h.1 in
      let e : weights (goal_parts w env g ++ flat_map (λ (part : Env → List Part). part env) (map (λ g env. goal_parts w env g) gs))
      ≡ weights (goal_parts w env g) + weights (flat_map (λ (part : Env → List Part). part env) (map (λ g env. goal_parts w env g) gs))
      = weights-append (goal_parts w env g) (flat_map (λ (part : Env → List Part). part env) (map (λ g env. goal_parts w env g) gs)) in
      let s : amount (somes (hard_count w g ∷ map (λ g. hard_count w g) gs)) ≡ amount (hard_count w g) + amount (somes (map (λ g. hard_count w g) gs))
      = somes-sum (hard_count w g) (map (λ g. hard_count w g) gs) in
      omega arith

  of_And : (a : ℕ) (gs : List GoalTree) → Each Counted gs → Counted (goal.And a gs)
  of_And a [] h env = let e : weights (goal_parts w env (goal.And a [])) ≡ 0 = ap weights (walks.goal_parts-And w env a []) in omega arith
  of_And a (g ∷ gs) h env =
      let e : weights (goal_parts w env (goal.And a (g ∷ gs))) ≡ weights (flat_map (λ (part : Env → List Part). part env) (map (λ g env. goal_parts w env g) (g ∷ gs))) = ap weights (walks.goal_parts-And w env a (g ∷ gs)) in
      let k : amount (hard_count w (goal.And a (g ∷ gs))) ≡ amount (somes (map (λ g. hard_count w g) (g ∷ gs))) = ap amount (below.hard_count-And w a (g ∷ gs)) in
      let m : weights (flat_map (λ (part : Env → List Part). part env) (map (λ g env. goal_parts w env g) (g ∷ gs))) ≤ amount (somes (map (λ g. hard_count w g) (g ∷ gs))) = goals-together (g ∷ gs) env h in
      omega arith

  of_Forall : (a : ℕ) (vars : List Group) (g : GoalTree) → Counted g → Counted (goal.Forall a vars g)
  of_Forall a vars g h env =
      let e : weights (goal_parts w env (goal.Forall a vars g)) ≡ weights (flat_map (λ env. goal_parts w env g) (bindings w env vars)) = ap weights (walks.goal_parts-Forall w env a vars g) in
      let k : amount (hard_count w (goal.Forall a vars g)) ≡ amount (either None (λ n. Some (written_out w vars n)) (hard_count w g)) = ap amount (below.hard_count-Forall w a vars g) in
      let m : weights (flat_map (λ env. goal_parts w env g) (bindings w env vars)) ≤ amount (either None (λ n. Some (written_out w vars n)) (hard_count w g)) = by (hard_count w g) h in
      omega arith
    where
      none : (es : List Env) → ((env : Env) → weights (goal_parts w env g) ≤ 0) → weights (flat_map (λ env. goal_parts w env g) es) ≤ 0
      none [] k = omega arith
      none (e ∷ es) k =
          let own : weights (goal_parts w e g) ≤ 0 = k e in
          let ih : weights (flat_map (λ env. goal_parts w env g) es) ≤ 0 = none es k in
          let s : weights (goal_parts w e g ++ flat_map (λ env. goal_parts w env g) es) ≡ weights (goal_parts w e g) + weights (flat_map (λ env. goal_parts w env g) es) = weights-append (goal_parts w e g) (flat_map (λ env. goal_parts w env g) es) in
          omega arith

      by : (o : Option ℕ) → ((env : Env) → weights (goal_parts w env g) ≤ amount o) → weights (flat_map (λ env. goal_parts w env g) (bindings w env vars)) ≤ amount (either None (λ n. Some (written_out w vars n)) o)
      by None k = none (bindings w env vars) k
      by (Some n) k = weights-written w env vars (λ env. goal_parts w env g) n k

  goal-counted : (g : GoalTree) → Counted g
  goal-counted = each_goal Counted
      (λ c env.
      let e : weights (goal_parts w env (goal.Condition c)) ≡ weights (condition_parts w env c) = ap weights (walks.goal_parts-Condition w env c) in
      let k : amount (hard_count w (goal.Condition c)) ≡ condition_count w c = ap amount (below.hard_count-Condition w c) in
      let m : weights (condition_parts w env c) ≤ condition_count w c = condition-counted w c env in
      omega arith)
      of_And of_Forall
      (λ a n s env. let e : weights (goal_parts w env (goal.Preference a n s)) ≡ 0 = ap weights (walks.goal_parts-Preference w env a n s) in omega arith)

  pub goal-parts_counted : (g : GoalTree) (env : Env) → weights (goal_parts w env g) ≤ goal_count w g
  goal-parts_counted g env = goal-counted g env

  -- ---- preferences of the goal

  abbrev pub preference_weight : Env → PreferencePart → ℕ
  preference_weight env (OfFacts f) = formula_count w f
  preference_weight env (OfNumbers c) = weights (condition_parts w env c)

  abbrev pub preference_weights : Env → List PreferencePart → ℕ
  preference_weights env [] = 0
  preference_weights env (x ∷ xs) = preference_weight env x + preference_weights env xs

  preferences-append : (env : Env) (xs ys : List PreferencePart) → preference_weights env (xs ++ ys) ≡ preference_weights env xs + preference_weights env ys
  preferences-append env [] ys = omega arith
  preferences-append env (x ∷ xs) ys = let ih : preference_weights env (xs ++ ys) ≡ preference_weights env xs + preference_weights env ys = preferences-append env xs ys in omega arith

  abbrev SoftCounted : SoftTree → Type 0
  SoftCounted s = (env : Env) → preference_weights env (preference_parts w s) ≤ soft_count w s

  softs-together : (ss : List SoftTree) (env : Env) → Each SoftCounted ss
      → preference_weights env (flat_map (λ (part : List PreferencePart). part) (map (λ s. preference_parts w s) ss)) ≤ together (map (λ s. soft_count w s) ss)
  softs-together [] env h = omega arith
  softs-together (s ∷ ss) env h =
      let own : preference_weights env (preference_parts w s) ≤ soft_count w s = h.0 env in
      let ih : preference_weights env (flat_map (λ (part : List PreferencePart). part) (map (λ s. preference_parts w s) ss)) ≤ together (map (λ s. soft_count w s) ss) = softs-together ss env h.1 in
      let e : preference_weights env (preference_parts w s ++ flat_map (λ (part : List PreferencePart). part) (map (λ s. preference_parts w s) ss))
      ≡ preference_weights env (preference_parts w s) + preference_weights env (flat_map (λ (part : List PreferencePart). part) (map (λ s. preference_parts w s) ss))
      = preferences-append env (preference_parts w s) (flat_map (λ (part : List PreferencePart). part) (map (λ s. preference_parts w s) ss)) in
      omega arith

  soft_And : (a : ℕ) (ss : List SoftTree) → Each SoftCounted ss → SoftCounted (soft.And a ss)
  soft_And a ss h env =
      let e : preference_weights env (preference_parts w (soft.And a ss)) ≡ preference_weights env (flat_map (λ (part : List PreferencePart). part) (map (λ s. preference_parts w s) ss)) = ap (preference_weights env) (walks.preference_parts-And w a ss) in
      let k : soft_count w (soft.And a ss) ≡ sum_or_one (map (λ s. soft_count w s) ss) = below.soft_count-And w a ss in
      let m : preference_weights env (flat_map (λ (part : List PreferencePart). part) (map (λ s. preference_parts w s) ss)) ≤ together (map (λ s. soft_count w s) ss) = softs-together ss env h in
      let s : together (map (λ s. soft_count w s) ss) ≤ sum_or_one (map (λ s. soft_count w s) ss) = sum-least (map (λ s. soft_count w s) ss) in
      omega arith

  soft_Equal : (a : ℕ) (l r : Side) → SoftCounted (soft.Equal a l r)
  soft_Equal a l r env =
      let e : preference_weights env (preference_parts w (soft.Equal a l r)) ≡ preference_weight env (equal_preference w a l r) + 0 = ap (preference_weights env) (walks.preference_parts-Equal w a l r) in
      let k : soft_count w (soft.Equal a l r) ≡ equal_count w l r = below.soft_count-Equal w a l r in
      let m : preference_weight env (equal_preference w a l r) ≤ equal_count w l r = by (is_equality w.functions l r) refl in
      omega arith
    where
      by : (b : Bool) → is_equality w.functions l r ≡ b → preference_weight env (if b then OfFacts (form.Equal a l r) else OfNumbers (cond.Equal a l r)) ≤ (if b then 1 else 2)
      by true q = let f : formula_count w (form.Equal a l r) ≡ 1 = below.formula_count-Equal w a l r in omega arith
      by false q =
          let c : weights (condition_parts w env (cond.Equal a l r)) ≤ condition_count w (cond.Equal a l r) = condition-counted w (cond.Equal a l r) env in
          let n : condition_count w (cond.Equal a l r) ≡ 2 = below.condition_count-Equal w a l r ∙ ap (λ b. if b then 1 else 2) q in
          omega arith

  pub soft-counted : (s : SoftTree) → SoftCounted s
  soft-counted = each_preference SoftCounted
      (λ f env.
      let e : preference_weights env (preference_parts w (soft.Formula f)) ≡ formula_count w f + 0 = ap (preference_weights env) (walks.preference_parts-Formula w f) in
      let k : soft_count w (soft.Formula f) ≡ formula_count w f = below.soft_count-Formula w f in omega arith)
      soft_Equal
      (λ c env.
      let e : preference_weights env (preference_parts w (soft.Comparison c)) ≡ weights (condition_parts w env c) + 0 = ap (preference_weights env) (walks.preference_parts-Comparison w c) in
      let k : soft_count w (soft.Comparison c) ≡ condition_count w c = below.soft_count-Comparison w c in
      let m : weights (condition_parts w env c) ≤ condition_count w c = condition-counted w c env in omega arith)
      soft_And

  -- ---- nested bindings

  length-nested_flat : {X Y : Type 0} (f : X → List Y) (n : ℕ) → ((x : X) → length (f x) ≡ n) → (xs : List X) → length (flat_map f xs) ≡ length xs * n
  length-nested_flat f n h [] = omega arith
  length-nested_flat f n h (x ∷ xs) =
      let own : length (f x) ≡ n = h x in
      let ih : length (flat_map f xs) ≡ length xs * n = length-nested_flat f n h xs in
      let e : length (f x ++ flat_map f xs) ≡ length (f x) + length (flat_map f xs) = length-append (f x) (flat_map f xs) in
      omega arith

  pub length-nested : (env : Env) (around : List (List Group)) → length (nested_bindings w env around) ≡ around_count w around
  length-nested env [] = refl
  length-nested env (vars ∷ inner) =
      length-nested_flat (λ e. nested_bindings w e inner) (around_count w inner) (λ e. length-nested e inner) (bindings w env vars)
      ∙ ap (λ (n : ℕ). n * around_count w inner) (length-bindings w env vars)

-- where the counts fit their limits, there is nothing or the parts are few
pub few_or_none : {X : Type 0} (xs : List X) (outer parts : ℕ) → length xs ≡ outer → fit_limits outer parts ≡ true → (xs ≡ []) ⊎ (parts ≤ 65536)
few_or_none xs outer parts e h = by (nat_lt 0 outer) refl (nat_le parts 65536) refl (nat_le outer 1048576) h
  where
    by : (z : Bool) → nat_lt 0 outer ≡ z → (y : Bool) → nat_le parts 65536 ≡ y → (x : Bool) → (x && (y || not z)) ≡ true → (xs ≡ []) ⊎ (parts ≤ 65536)
    by z k true l x g = inr (le_out parts 65536 l)
    by false k false l x g = inl (nil_from_length xs (grind (arith, nat_tests)))
    by true k false l true g = cc
    by true k false l false g = cc

-- ---- literals and forms of parts

pub length-compared : (g : Ground) (t : Test) → length (compared g t) ≤ compare_count t.order
length-compared g t = by t.order (form_or_zero (difference g.world no_unknowns t))
  where
    by : (o : Comparison) (d : LinearForm) → length (map (over_fluents g) (forms_of o d)) ≤ compare_count o
    by Equal d = omega arith
    by AtMost d = omega arith
    by AtLeast d = omega arith
    by Below d = omega arith
    by Above d = omega arith

pub length-parts : {X : Type 0} (f : Part → List X) → ((p : Part) → length (f p) ≤ weight p) → (ps : List Part) → length (flat_map f ps) ≤ weights ps
length-parts f h [] = omega arith
length-parts f h (p ∷ ps) =
    let own : length (f p) ≤ weight p = h p in
    let ih : length (flat_map f ps) ≤ weights ps = length-parts f h ps in
    let e : length (f p ++ flat_map f ps) ≡ length (f p) + length (flat_map f ps) = length-append (f p) (flat_map f ps) in
    omega arith

pub length-dynamic : (w : World) (facts : List GroundAtom) (p : Part) → length (dynamic_literal w facts p) ≤ weight p
length-dynamic w facts (Lit a holds) = by (w.is_static (symbol a))
  where
    by : (b : Bool) → length (if b then [] else literal_of facts (Lit a holds)) ≤ 1
    by true = omega arith
    by false = omega arith
length-dynamic w facts (Same holds) = omega arith
length-dynamic w facts (Compares t) = omega arith

pub length-literal : (facts : List GroundAtom) (p : Part) → length (literal_of facts p) ≤ weight p
length-literal facts (Lit a holds) = omega arith
length-literal facts (Same holds) = omega arith
length-literal facts (Compares t) = omega arith

pub length-forms : (g : Ground) (p : Part) → length (forms_in g p) ≤ weight p
length-forms g (Lit a holds) = omega arith
length-forms g (Same holds) = omega arith
length-forms g (Compares t) = length-compared g t

pub length-goal_forms : (g : Ground) (p : Part) → length (goal_forms_in g p) ≤ weight p
length-goal_forms g (Lit a holds) = omega arith
length-goal_forms g (Same true) = omega arith
length-goal_forms g (Same false) = omega arith
length-goal_forms g (Compares t) = length-compared g t

-- ---- formulas and forms of a preference

length-tests : (g : Ground) (ps : List Part) → length (flat_map (compared g) (flat_map tests_in ps)) ≤ weights ps
length-tests g [] = omega arith
length-tests g (Lit a holds ∷ ps) = let ih : length (flat_map (compared g) (flat_map tests_in ps)) ≤ weights ps = length-tests g ps in omega arith
length-tests g (Same holds ∷ ps) = let ih : length (flat_map (compared g) (flat_map tests_in ps)) ≤ weights ps = length-tests g ps in omega arith
length-tests g (Compares t ∷ ps) =
    let own : length (compared g t) ≤ compare_count t.order = length-compared g t in
    let ih : length (flat_map (compared g) (flat_map tests_in ps)) ≤ weights ps = length-tests g ps in
    let e : length (compared g t ++ flat_map (compared g) (flat_map tests_in ps)) ≡ length (compared g t) + length (flat_map (compared g) (flat_map tests_in ps))
    = length-append (compared g t) (flat_map (compared g) (flat_map tests_in ps)) in
    omega arith

pub length-preference_forms : (g : Ground) (env : Env) (xs : List PreferencePart) → length (flat_map (λ x. flat_map (compared g) (comparisons_in g.world env x)) xs) ≤ preference_weights g.world env xs
length-preference_forms g env [] = omega arith
length-preference_forms g env (OfFacts f ∷ xs) =
    let ih : length (flat_map (λ x. flat_map (compared g) (comparisons_in g.world env x)) xs) ≤ preference_weights g.world env xs = length-preference_forms g env xs in omega arith
length-preference_forms g env (OfNumbers c ∷ xs) =
    let own : length (flat_map (compared g) (flat_map tests_in (condition_parts g.world env c))) ≤ weights (condition_parts g.world env c) = length-tests g (condition_parts g.world env c) in
    let ih : length (flat_map (λ x. flat_map (compared g) (comparisons_in g.world env x)) xs) ≤ preference_weights g.world env xs = length-preference_forms g env xs in
    let e : length (flat_map (compared g) (flat_map tests_in (condition_parts g.world env c)) ++ flat_map (λ x. flat_map (compared g) (comparisons_in g.world env x)) xs)
    ≡ length (flat_map (compared g) (flat_map tests_in (condition_parts g.world env c))) + length (flat_map (λ x. flat_map (compared g) (comparisons_in g.world env x)) xs)
    = length-append (flat_map (compared g) (flat_map tests_in (condition_parts g.world env c))) (flat_map (λ x. flat_map (compared g) (comparisons_in g.world env x)) xs) in
    omega arith

-- each formula of a preference is counted, and they are no more than is counted
pub preference-formulas : (w : World) (env : Env) (xs : List PreferencePart) (most : ℕ) → preference_weights w env xs ≤ most
    → Each (λ f. formula_count w f ≤ most) (flat_map formulas_in xs) × (length (flat_map formulas_in xs) ≤ most)
preference-formulas w env [] most h = (tt, omega arith)
preference-formulas w env (OfFacts f ∷ xs) most h =
    let own : 0 < formula_count w f = formula-counts w f in
    let rest : Each (λ f. formula_count w f ≤ most) (flat_map formulas_in xs) × (length (flat_map formulas_in xs) ≤ most) = preference-formulas w env xs most (omega arith) in
    let few : Each (λ f. formula_count w f ≤ preference_weights w env xs) (flat_map formulas_in xs) × (length (flat_map formulas_in xs) ≤ preference_weights w env xs) = preference-formulas w env xs (preference_weights w env xs) (omega arith) in
    let k : length (flat_map formulas_in xs) ≤ preference_weights w env xs = few.1 in
    ((omega arith, rest.0), omega arith)
preference-formulas w env (OfNumbers c ∷ xs) most h = preference-formulas w env xs most (omega arith)
