-- The timed steps, the goal, the constraints, the soft terms and the metric of the ground task fit.
use Rattle.std.proofs.Common.{◌≡◌, ⊎_elim, refl, sym, subst, ℕ, ◌<◌, ◌≤◌, arith, Bool, true, false, not, ◌&&◌, ◌||◌, nat_lt, nat_le, nat_eq, List, [], ◌∷◌, ◌++◌, map, length, Option, Some, None}
use Rattle.std.specs.Prelude.{if◌then◌else◌}
use Rattle.std.specs.List.{AllByRecursion as Each, flat_map, filter, list_all}
use Rattle.std.proofs.lemmas.Bool.Decides.{nat_tests}
use Rattle.std.proofs.lemmas.List.{length-map}
use Rattle.basics.proofs.Bools.{and_left, and_right, and_in}
use Rattle.basics.proofs.Naturals.{le_in, le_out, lt_out}
use Rattle.basics.proofs.Lists.{all_in, all_out, filter-shorter, each_append, each_left, each_right, each_map}
use Rattle.rational.specs.Rational.{ℚ, zeroℚ}
use Rattle.rational.proofs.Inequalities.{le_from_eq}
use Rattle.exact_lin.specs.Forms.{LinearForm, Terms, IsForm, coefficient, constant_form}
use Rattle.task_types.specs.declared.conditions.Literal.{Literal}
use Rattle.task_types.specs.declared.costs.Soft.TheVariants as soft
use Rattle.task_types.specs.declared.formulas.FactTree.{FactTree}
use Rattle.task_types.specs.declared.parts.TaskParts.{TaskParts}
use Rattle.task_types.specs.Tests.{◌<?◌, ◌≤?◌, ◌=?◌}
use Rattle.task_types.specs.WellMade.{are_below, form_fits, condition_fits, snap_fits, tree_fits, trail_fits, soft_fits}
use Rattle.task_types.proofs.Comparisons.{le_in as rational_le}
use Rattle.pddl_terms.specs.declared.trees.FactForm.{FactForm}
use Rattle.pddl_terms.specs.declared.trees.SoftTree.{SoftTree}
use Rattle.pddl_terms.specs.declared.trees.ConForm.{ConForm}
use Rattle.pddl_terms.specs.declared.trees.Trajectory.{Trajectory}
use Rattle.pddl_terms.specs.declared.trees.Trajectory.TheVariants as trail
use Rattle.pddl_terms.specs.declared.files.Aim.{Aim}
use Rattle.pddl_terms.specs.declared.files.Aim.TheVariants.{Minimize, Maximize}
use Rattle.pddl_terms.specs.declared.files.CostCurve.{CostCurve}
use Rattle.pddl_terms.specs.declared.files.CostCurve.TheVariants as curve
use Rattle.pddl_terms.specs.declared.files.Metric.{Metric}
use Rattle.pddl_terms.specs.declared.files.InitEntry.{InitEntry}
use Rattle.pddl_terms.specs.declared.files.InitEntry.TheVariants as init
use Rattle.pddl_terms.specs.declared.files.Domain.{Domain}
use Rattle.pddl_terms.specs.declared.files.Problem.{Problem}
use Rattle.pddl_names.specs.Declarations.{Text, among}
use Rattle.ground_world.specs.World.{Env, either, GroundAtom, ground_atom, symbol}
use Rattle.ground_world.specs.Bindings.{nested_bindings}
use Rattle.ground_world.specs.Changes.{atoms_in, changes}
use Rattle.ground_world.specs.FirstState.{world, changed_predicate, changed_predicates, timed_predicate, no_places}
use Rattle.ground_world.specs.Conditions.{Part, Lit, Same, Compares}
use Rattle.ground_world.specs.Expressions.{own_unknown, preference_unknown, cost_unknown, unknown, reckoned, form_or_zero}
use Rattle.ground_world.specs.Leaves.{Leaf, Named, Cost, goal_preferences, constraint_leaves, constraints, costs, leaf_envs, unknowns, toward, minimised, minimised_value}
use Rattle.ground_world.specs.Counts.{bindings_fit, fit_limits, formula_count, soft_count, trajectory_count, goal_count, around_count}
use Rattle.ground_world.proofs.Walks as below
use Rattle.grounder.specs.Terms.{PreferencePart, part_atoms, preference_atoms, preference_parts, formulas_in, comparisons_in, formula, formula_atoms, goal_parts, goal_atoms, constraint_atoms, watched, watched_atoms}
use Rattle.grounder.specs.Task.{grounding, fact_atoms, mentioned_atoms, fact_number, compared, literal_of, goal_forms_in, goal_condition, Timing, timing, timings, moments, literals_at, timed_snap, metric, preference_weight, cost_weight, all_of, goal_soft, trail_of, hard_of, soft_of, soft_cost, hard_terms, soft_terms}
use Rattle.grounder.specs.Accepted.{is_binding, curve_fits, IsAccepted, weighs_right}
use Rattle.grounder.proofs.Each.{each_weaker, each_both, map_each, each_flat_map, flat_map_each, each_filter, each_everywhere}
use Rattle.grounder.proofs.Placing.{with_new-has}
use Rattle.grounder.proofs.Stepping.{Rising, rising-with}
use Rattle.grounder.proofs.FormFacts.{unknown-ascends, form-ascends, negative-ascends}
use Rattle.grounder.proofs.FormulaFits.{fits-and, formula-fits}
use Rattle.grounder.proofs.GoalFits.{goal-parts_mentioned, preferences-mentioned, constraints-mentioned}
use Rattle.grounder.proofs.GoalSizes.{goal-parts_counted, preference_weights, soft-counted, length-nested, few_or_none, length-parts, length-literal, length-goal_forms, length-preference_forms, preference-formulas}
use Rattle.grounder.proofs.Sizes.{weights}
use Rattle.grounder.proofs.Kept.{Within, each_within}
use Rattle.grounder.proofs.WorldFacts.{fact-known, predicate-changes}
use Rattle.grounder.proofs.Conditions.{IsOver, short-list, over_fluents-fits, compared-fits, atom-numbered}
use Rattle.grounder.proofs.Effects.{zero-is}
use Rattle.grounder.proofs.Passed.{HasValues}

zero-at_most : (zeroℚ ≤? zeroℚ) ≡ true
zero-at_most = rational_le zeroℚ zeroℚ (le_from_eq zeroℚ zeroℚ refl)

-- a coefficient that isn't a fluent's is at least 0
nonneg-coefficient : (own : ℕ) (ts : Terms) → list_all (λ t. nat_lt t.0 own || (zeroℚ ≤? t.1)) ts ≡ true → (v : ℕ) → own ≤ v → (zeroℚ ≤? coefficient ts v) ≡ true
nonneg-coefficient own [] h v l = zero-at_most
nonneg-coefficient own (t ∷ ts) h v l = by (nat_eq t.0 v) refl (nonneg-coefficient own ts (and_right (nat_lt t.0 own || (zeroℚ ≤? t.1)) (list_all (λ t. nat_lt t.0 own || (zeroℚ ≤? t.1)) ts) h) v l)
  where
    past : (b : Bool) → nat_lt t.0 own ≡ b → (b || (zeroℚ ≤? t.1)) ≡ true → t.0 ≡ v → (zeroℚ ≤? t.1) ≡ true
    past true e k s = let m : t.0 < own = lt_out t.0 own e in absurd (omega arith)
    past false e k s = k

    by : (b : Bool) → nat_eq t.0 v ≡ b → (zeroℚ ≤? coefficient ts v) ≡ true → (zeroℚ ≤? (if b then t.1 else coefficient ts v)) ≡ true
    by true e m = past (nat_lt t.0 own) refl (and_left (nat_lt t.0 own || (zeroℚ ≤? t.1)) (list_all (λ t. nat_lt t.0 own || (zeroℚ ≤? t.1)) ts) h) (grind (arith, nat_tests))
    by false e m = m

single-limit : (parts : ℕ) → fit_limits 1 parts ≡ true → parts ≤ 65536
single-limit parts h = by (nat_le parts 65536) refl h
  where
    by : (y : Bool) → nat_le parts 65536 ≡ y → (y || false) ≡ true → parts ≤ 65536
    by true e k = le_out parts 65536 e
    by false e k = cc

module _ (d : Domain) (p : Problem) (ok : IsAccepted d p) (fit : bindings_fit (world d p) d p ≡ true) (valued : HasValues (world d p) p.metric) (task : TaskParts) (over : IsOver (grounding d p) task) where
  abbrev Known : GroundAtom → Type 0
  Known a = among (fact_atoms (world d p) d p) a ≡ true

  -- ---- timed steps

  timed-changed : Each (λ e. Each (Within (changed_predicates d p)) (timed_predicate e)) p.init
  timed-changed = flat_map_each (Within (changed_predicates d p)) timed_predicate p.init
      (each_within (flat_map (λ a. flat_map (λ c. changed_predicate c.part) (changes a)) d.actions) (flat_map timed_predicate p.init))

  timing-changes : (e : InitEntry) → Each (Within (changed_predicates d p)) (timed_predicate e) → Each (λ l. (world d p).is_static (symbol l.atom) ≡ false) (timing (world d p) e)
  timing-changes (init.Holds a) h = tt
  timing-changes (init.Not at c) h = tt
  timing-changes (init.Value at c q) h = tt
  timing-changes (init.Timed l) h = each_map (λ l. (world d p).is_static (symbol l.atom) ≡ false) (λ a. record { moment = l.moment; holds = l.holds; atom = ground_atom (world d p) [] a }) (atoms_in l.atom)
      (each_weaker (λ a. Within (changed_predicates d p) a.name.bytes) (λ a. (world d p).is_static (symbol (ground_atom (world d p) [] a)) ≡ false) (λ a w. predicate-changes d p a.name.bytes w) (atoms_in l.atom)
      (map_each (Within (changed_predicates d p)) (λ a. a.name.bytes) (atoms_in l.atom) h))
  timing-changes (init.LeftOut at) h = tt

  timings-known : Each (λ l. Known l.atom) (timings (world d p) p.init)
  unfolding timings
  timings-known = each_weaker (λ l. ((world d p).is_static (symbol l.atom) ≡ false) × (((zeroℚ <? l.moment) && is_binding (world d p) d.predicates l.atom) ≡ true)) (λ l. Known l.atom)
      (λ l h. fact-known d p ok l.atom (and_right _ _ h.1) h.0) (flat_map (timing (world d p)) p.init)
      (each_both (λ l. (world d p).is_static (symbol l.atom) ≡ false) (λ l. ((zeroℚ <? l.moment) && is_binding (world d p) d.predicates l.atom) ≡ true) (flat_map (timing (world d p)) p.init)
      (each_flat_map (λ l. (world d p).is_static (symbol l.atom) ≡ false) (timing (world d p)) p.init
      (each_weaker (λ e. Each (Within (changed_predicates d p)) (timed_predicate e)) (λ e. Each (λ l. (world d p).is_static (symbol l.atom) ≡ false) (timing (world d p) e)) timing-changes p.init timed-changed))
      (all_out (λ l. (zeroℚ <? l.moment) && is_binding (world d p) d.predicates l.atom) (flat_map (timing (world d p)) p.init) (and_right _ _ ok.timed)))

  literals-below : (t : ℚ) (holds : Bool) → are_below (length task.facts) (literals_at (grounding d p) (timings (world d p) p.init) t holds) ≡ true
  literals-below t holds = and_in _ _
      (le_in (length (literals_at (grounding d p) (timings (world d p) p.init) t holds)) 1048576
      (let a : length (map (λ l. fact_number (grounding d p) l.atom) (filter passes (timings (world d p) p.init))) ≡ length (filter passes (timings (world d p) p.init)) = length-map (filter passes (timings (world d p) p.init)) (λ l. fact_number (grounding d p) l.atom) in
      let b : length (filter passes (timings (world d p) p.init)) ≤ length (timings (world d p) p.init) = filter-shorter passes (timings (world d p) p.init) in
      let c : length (timings (world d p) p.init) ≤ 1048576 = le_out (length (timings (world d p) p.init)) 1048576 (and_left _ _ ok.timed) in
      omega arith))
      (all_in (λ x. nat_lt x (length task.facts)) (literals_at (grounding d p) (timings (world d p) p.init) t holds)
      (each_map (λ x. nat_lt x (length task.facts) ≡ true) (λ l. fact_number (grounding d p) l.atom) (filter passes (timings (world d p) p.init))
      (each_weaker (λ l. Known l.atom × (passes l ≡ true)) (λ l. nat_lt (fact_number (grounding d p) l.atom) (length task.facts) ≡ true) (λ l h. atom-numbered (grounding d p) task over l.atom h.0) (filter passes (timings (world d p) p.init))
      (each_filter (λ l. Known l.atom) passes (timings (world d p) p.init) timings-known))))
    where
      passes : Timing → Bool
      passes l = (l.moment =? t) && (if holds then l.holds else not l.holds)

  pub timed-fits : (t : ℚ) → snap_fits task (timed_snap (grounding d p) (timings (world d p) p.init) t) ≡ true
  timed-fits t = and_in _ _ (and_in _ _ (and_in _ _ (and_in _ _ (and_in _ _ (and_in _ _ refl
      (and_in _ _ (and_in _ _ (and_in _ _ (literals-below t true) (literals-below t false)) refl) refl)) refl) refl) refl) refl) refl

  pub moments-rise : Rising zeroℚ (moments (timings (world d p) p.init))
  moments-rise = go (timings (world d p) p.init) (all_out (λ l. (zeroℚ <? l.moment) && is_binding (world d p) d.predicates l.atom) (timings (world d p) p.init) (and_right _ _ ok.timed))
    where
      go : (ls : List Timing) → Each (λ l. ((zeroℚ <? l.moment) && is_binding (world d p) d.predicates l.atom) ≡ true) ls → Rising zeroℚ (moments ls)
      go [] h = tt
      go (l ∷ ls) h = rising-with zeroℚ l.moment (moments ls) (and_left _ _ h.0) (go ls h.1)

  -- ---- what is mentioned

  mentioned-known : Each Known (mentioned_atoms (world d p) d p)
  unfolding fact_atoms
  mentioned-known = with_new-has _ (mentioned_atoms (world d p) d p)

  abbrev goal_part : List GroundAtom
  goal_part = goal_atoms (world d p) [] p.goal

  abbrev domain_part : List GroundAtom
  domain_part = either [] (constraint_atoms (world d p) []) d.constraints

  abbrev problem_part : List GroundAtom
  problem_part = either [] (constraint_atoms (world d p) []) p.constraints

  abbrev cost_part : List GroundAtom
  cost_part = flat_map (λ c. formula_atoms (world d p) [] c.formula) (costs p)

  goal-known : Each Known goal_part
  goal-known = each_left Known goal_part domain_part (each_left Known (goal_part ++ domain_part) problem_part (each_left Known (goal_part ++ domain_part ++ problem_part) cost_part mentioned-known))

  domain-known : Each Known domain_part
  domain-known = each_right Known goal_part domain_part (each_left Known (goal_part ++ domain_part) problem_part (each_left Known (goal_part ++ domain_part ++ problem_part) cost_part mentioned-known))

  problem-known : Each Known problem_part
  problem-known = each_right Known (goal_part ++ domain_part) problem_part (each_left Known (goal_part ++ domain_part ++ problem_part) cost_part mentioned-known)

  costs-known : Each Known cost_part
  costs-known = each_right Known (goal_part ++ domain_part ++ problem_part) cost_part mentioned-known

  -- ---- the goal

  literal-known : (x : Part) → Each Known (part_atoms x) → Each (λ l. nat_lt l.fact (length task.facts) ≡ true) (literal_of (fact_atoms (world d p) d p) x)
  literal-known (Lit a holds) h = (atom-numbered (grounding d p) task over a h.0, tt)
  literal-known (Same holds) h = tt
  literal-known (Compares t) h = tt

  goal-forms : (x : Part) → Each (λ f. form_fits task f ≡ true) (goal_forms_in (grounding d p) x)
  goal-forms (Lit a holds) = tt
  goal-forms (Same true) = tt
  goal-forms (Same false) = (refl, tt)
  goal-forms (Compares t) = compared-fits (grounding d p) task over t

  goal-few : weights (goal_parts (world d p) [] p.goal) ≤ 65536
  unfolding bindings_fit
  goal-few =
      let a : weights (goal_parts (world d p) [] p.goal) ≤ goal_count (world d p) p.goal = goal-parts_counted (world d p) p.goal [] in
      let b : goal_count (world d p) p.goal ≤ 65536 = single-limit (goal_count (world d p) p.goal) (and_right _ _ (and_left _ _ fit)) in
      omega arith

  pub goal-fits : condition_fits task (goal_condition (grounding d p) (goal_parts (world d p) [] p.goal)) ≡ true
  goal-fits = and_in _ _
      (and_in _ _ (short-list (map (λ l. l.fact) literals) (weights parts) (let e : length (map (λ l. l.fact) literals) ≡ length literals = length-map literals (λ l. l.fact) in
      let f : length literals ≤ weights parts = length-parts (literal_of (fact_atoms (world d p) d p)) (length-literal (fact_atoms (world d p) d p)) parts in omega arith) goal-few)
      (all_in (λ x. nat_lt x (length task.facts)) (map (λ l. l.fact) literals) (each_map (λ x. nat_lt x (length task.facts) ≡ true) (λ l. l.fact) literals
      (each_flat_map (λ l. nat_lt l.fact (length task.facts) ≡ true) (literal_of (fact_atoms (world d p) d p)) parts
      (each_weaker (λ x. Each Known (part_atoms x)) (λ x. Each (λ l. nat_lt l.fact (length task.facts) ≡ true) (literal_of (fact_atoms (world d p) d p) x)) literal-known parts
      (goal-parts_mentioned (world d p) Known p.goal [] goal-known))))))
      (and_in _ _ (short-list forms (weights parts) (length-parts (goal_forms_in (grounding d p)) (length-goal_forms (grounding d p)) parts) goal-few)
      (all_in (form_fits task) forms (each_flat_map (λ f. form_fits task f ≡ true) (goal_forms_in (grounding d p)) parts
      (each_everywhere (λ x. Each (λ f. form_fits task f ≡ true) (goal_forms_in (grounding d p) x)) goal-forms parts))))
    where
      parts : List Part
      parts = goal_parts (world d p) [] p.goal

      literals : List Literal
      literals = flat_map (literal_of (fact_atoms (world d p) d p)) (goal_parts (world d p) [] p.goal)

      forms : List LinearForm
      forms = flat_map (goal_forms_in (grounding d p)) (goal_parts (world d p) [] p.goal)

  -- ---- constraints

  abbrev Asked : Leaf (Option Text × Trajectory) → Type 0
  Asked l = Each (λ e. Each Known (watched_atoms (world d p) e (watched l.leaf.1))) (nested_bindings (world d p) [] l.around)

  constraints-known : Each Asked (constraints d p)
  constraints-known = each_append Asked (either [] constraint_leaves d.constraints) (either [] constraint_leaves p.constraints) (of_domain d.constraints domain-known) (of_domain p.constraints problem-known)
    where
      of_domain : (o : Option ConForm) → Each Known (either [] (constraint_atoms (world d p) []) o) → Each Asked (either [] constraint_leaves o)
      of_domain None h = tt
      of_domain (Some c) h = constraints-mentioned (world d p) Known c [] h

  constraints-few : list_all (λ l. fit_limits (around_count (world d p) l.around) (trajectory_count (world d p) l.leaf.1)) (constraints d p) ≡ true
  unfolding bindings_fit
  constraints-few = and_right _ _ (and_left _ _ (and_left _ _ fit))

  empty-counts : (n : ℕ) → n ≡ 1 → n ≤ 65536
  empty-counts n e = omega arith

  first-few : (t : Trajectory) → trajectory_count (world d p) t ≤ 65536 → formula_count (world d p) (watched t).first ≤ 65536
  first-few (trail.Always at f) h = h
  first-few (trail.Sometime at f) h = h
  first-few (trail.Within at q f) h = h
  first-few (trail.AtMostOnce at f) h = h
  first-few (trail.SometimeAfter at f g) h = omega arith
  first-few (trail.SometimeBefore at f g) h = omega arith
  first-few (trail.AtEnd at f) h = h
  first-few (trail.LeftOut at) h = empty-counts _ (below.formula_count-LeftOut (world d p) at)

  second-few : (t : Trajectory) → trajectory_count (world d p) t ≤ 65536 → formula_count (world d p) (watched t).second ≤ 65536
  second-few (trail.Always at f) h = empty-counts _ (below.formula_count-Empty (world d p) 0)
  second-few (trail.Sometime at f) h = empty-counts _ (below.formula_count-Empty (world d p) 0)
  second-few (trail.Within at q f) h = empty-counts _ (below.formula_count-Empty (world d p) 0)
  second-few (trail.AtMostOnce at f) h = empty-counts _ (below.formula_count-Empty (world d p) 0)
  second-few (trail.SometimeAfter at f g) h = omega arith
  second-few (trail.SometimeBefore at f g) h = omega arith
  second-few (trail.AtEnd at f) h = empty-counts _ (below.formula_count-Empty (world d p) 0)
  second-few (trail.LeftOut at) h = empty-counts _ (below.formula_count-Empty (world d p) 0)

  trail-fits : (t : Trajectory) → trajectory_count (world d p) t ≤ 65536 → (e : Env) → Each Known (watched_atoms (world d p) e (watched t)) → trail_fits task (trail_of (grounding d p) t e) ≡ true
  trail-fits t l e h = and_in _ _
      (formula-fits (world d p) (fact_atoms (world d p) d p) task over.facts (watched t).first e (each_left Known (formula_atoms (world d p) e (watched t).first) (formula_atoms (world d p) e (watched t).second) h) (first-few t l))
      (formula-fits (world d p) (fact_atoms (world d p) d p) task over.facts (watched t).second e (each_right Known (formula_atoms (world d p) e (watched t).first) (formula_atoms (world d p) e (watched t).second) h) (second-few t l))

  -- the instances of one constraint
  trails-fit : (l : Leaf (Option Text × Trajectory)) → Asked l → fit_limits (around_count (world d p) l.around) (trajectory_count (world d p) l.leaf.1) ≡ true
      → Each (λ e. trail_fits task (trail_of (grounding d p) l.leaf.1 e) ≡ true) (leaf_envs (world d p) l)
  trails-fit l h k = ⊎_elim
      (λ e. subst (λ es. Each (λ e. trail_fits task (trail_of (grounding d p) l.leaf.1 e) ≡ true) es) (sym e) tt)
      (λ m. each_weaker (λ e. Each Known (watched_atoms (world d p) e (watched l.leaf.1))) (λ e. trail_fits task (trail_of (grounding d p) l.leaf.1 e) ≡ true) (trail-fits l.leaf.1 m) (nested_bindings (world d p) [] l.around) h)
      (few_or_none (nested_bindings (world d p) [] l.around) (around_count (world d p) l.around) (trajectory_count (world d p) l.leaf.1) (length-nested (world d p) [] l.around) k)

  all-trails : Each (λ l. Each (λ e. trail_fits task (trail_of (grounding d p) l.leaf.1 e) ≡ true) (leaf_envs (world d p) l)) (constraints d p)
  all-trails = each_weaker (λ l. Asked l × (fit_limits (around_count (world d p) l.around) (trajectory_count (world d p) l.leaf.1) ≡ true))
      (λ l. Each (λ e. trail_fits task (trail_of (grounding d p) l.leaf.1 e) ≡ true) (leaf_envs (world d p) l)) (λ l h. trails-fit l h.0 h.1) (constraints d p)
      (each_both Asked (λ l. fit_limits (around_count (world d p) l.around) (trajectory_count (world d p) l.leaf.1) ≡ true) (constraints d p) constraints-known
      (all_out (λ l. fit_limits (around_count (world d p) l.around) (trajectory_count (world d p) l.leaf.1)) (constraints d p) constraints-few))

  pub hard-fit : Each (λ t. trail_fits task t ≡ true) (hard_terms (grounding d p) (constraints d p))
  unfolding hard_terms
  hard-fit = each_flat_map (λ t. trail_fits task t ≡ true) (hard_of (grounding d p)) (constraints d p)
      (each_weaker (λ l. Each (λ e. trail_fits task (trail_of (grounding d p) l.leaf.1 e) ≡ true) (leaf_envs (world d p) l)) (λ l. Each (λ t. trail_fits task t ≡ true) (hard_of (grounding d p) l))
      (λ l h. one l h l.leaf.0) (constraints d p) all-trails)
    where
      one : (l : Leaf (Option Text × Trajectory)) → Each (λ e. trail_fits task (trail_of (grounding d p) l.leaf.1 e) ≡ true) (leaf_envs (world d p) l)
          → (o : Option Text) → Each (λ t. trail_fits task t ≡ true) (either (map (trail_of (grounding d p) l.leaf.1) (leaf_envs (world d p) l)) (λ n. []) o)
      one l h None = each_map (λ t. trail_fits task t ≡ true) (trail_of (grounding d p) l.leaf.1) (leaf_envs (world d p) l) h
      one l h (Some n) = tt

  -- ---- weights

  weight-nonneg : (v : ℕ) → own_unknown (world d p) ≤ v → (zeroℚ ≤? coefficient (minimised (world d p) d p).terms v) ≡ true
  weight-nonneg v l = by p.metric valued ok.weights
    where
      no_value : (a : Aim) → (zeroℚ ≤? coefficient (toward a (constant_form zeroℚ)).terms v) ≡ true
      no_value Minimize = zero-at_most
      no_value Maximize = zero-at_most

      reckoned_to : (a : Aim) (o : Option LinearForm) → either true (weighs_right (world d p)) (either None (λ f. Some (toward a f)) o) ≡ true
          → (zeroℚ ≤? coefficient (toward a (either (constant_form zeroℚ) (λ f. f) o)).terms v) ≡ true
      reckoned_to a None h = no_value a
      reckoned_to a (Some f) h = nonneg-coefficient (own_unknown (world d p)) (toward a f).terms h v l

      by : (o : Option Metric) → HasValues (world d p) o → either true (weighs_right (world d p)) (minimised_value (world d p) (unknowns d p) o) ≡ true
          → (zeroℚ ≤? coefficient (either (unknown (own_unknown (world d p))) (λ m. toward m.aim (form_or_zero (reckoned (world d p) (unknowns d p) [] m.expression))) o).terms v) ≡ true
      by None known h = nonneg-coefficient (own_unknown (world d p)) (unknown (own_unknown (world d p))).terms h v l
      by (Some m) known h = reckoned_to m.aim (reckoned (world d p) (unknowns d p) [] m.expression).value
          (subst (λ ps. either true (weighs_right (world d p)) (if no_places ps then either None (λ f. Some (toward m.aim f)) (reckoned (world d p) (unknowns d p) [] m.expression).value else None) ≡ true) (known m refl) h)

  preference-nonneg : (n : Text) → (zeroℚ ≤? preference_weight (grounding d p) n) ≡ true
  preference-nonneg n = weight-nonneg (preference_unknown (world d p) (unknowns d p) n) (omega arith)

  cost-nonneg : (n : Text) → (zeroℚ ≤? cost_weight (grounding d p) n) ≡ true
  cost-nonneg n = weight-nonneg (cost_unknown (world d p) (unknowns d p) n) (omega arith)

  -- ---- soft terms

  soft-trails : Each (λ s. soft_fits task s ≡ true) (flat_map (soft_of (grounding d p)) (constraints d p))
  soft-trails = each_flat_map (λ s. soft_fits task s ≡ true) (soft_of (grounding d p)) (constraints d p)
      (each_weaker (λ l. Each (λ e. trail_fits task (trail_of (grounding d p) l.leaf.1 e) ≡ true) (leaf_envs (world d p) l)) (λ l. Each (λ s. soft_fits task s ≡ true) (soft_of (grounding d p) l))
      (λ l h. one l h l.leaf.0) (constraints d p) all-trails)
    where
      one : (l : Leaf (Option Text × Trajectory)) → Each (λ e. trail_fits task (trail_of (grounding d p) l.leaf.1 e) ≡ true) (leaf_envs (world d p) l)
          → (o : Option Text) → Each (λ s. soft_fits task s ≡ true) (either [] (λ n. map (λ env. soft.Trail (trail_of (grounding d p) l.leaf.1 env) (preference_weight (grounding d p) n)) (leaf_envs (world d p) l)) o)
      one l h None = tt
      one l h (Some n) = each_map (λ s. soft_fits task s ≡ true) (λ env. soft.Trail (trail_of (grounding d p) l.leaf.1 env) (preference_weight (grounding d p) n)) (leaf_envs (world d p) l)
          (each_weaker (λ e. trail_fits task (trail_of (grounding d p) l.leaf.1 e) ≡ true) (λ e. soft_fits task (soft.Trail (trail_of (grounding d p) l.leaf.1 e) (preference_weight (grounding d p) n)) ≡ true)
          (λ e t. and_in _ _ t (preference-nonneg n)) (leaf_envs (world d p) l) h)

  all_of-fits : (ts : List FactTree) → length ts ≤ 1048576 → Each (λ t. tree_fits task t ≡ true) ts → tree_fits task (all_of ts) ≡ true
  all_of-fits [] l h = fits-and task [] l h
  all_of-fits (t ∷ []) l h = h.0
  all_of-fits (t ∷ u ∷ ts) l h = fits-and task (t ∷ u ∷ ts) l h

  abbrev Preferred : Leaf (Named SoftTree) → Type 0
  Preferred l = Each (λ e. Each Known (flat_map (preference_atoms (world d p) e) (preference_parts (world d p) l.leaf.body))) (nested_bindings (world d p) [] l.around)

  goal_soft-fits : (l : Leaf (Named SoftTree)) → soft_count (world d p) l.leaf.body ≤ 65536 → (e : Env) → Each Known (flat_map (preference_atoms (world d p) e) (preference_parts (world d p) l.leaf.body))
      → soft_fits task (goal_soft (grounding d p) l e) ≡ true
  goal_soft-fits l m e h = and_in _ _ (and_in _ _
      (all_of-fits (map (formula (world d p) (fact_number (grounding d p)) e) fs)
      (let k : length (map (formula (world d p) (fact_number (grounding d p)) e) fs) ≡ length fs = length-map fs (formula (world d p) (fact_number (grounding d p)) e) in let c : length fs ≤ 65536 = counted.1 in omega arith)
      (each_map (λ t. tree_fits task t ≡ true) (formula (world d p) (fact_number (grounding d p)) e) fs
      (each_weaker (λ f. (formula_count (world d p) f ≤ 65536) × Each Known (formula_atoms (world d p) e f)) (λ f. tree_fits task (formula (world d p) (fact_number (grounding d p)) e f) ≡ true)
      (λ f k. formula-fits (world d p) (fact_atoms (world d p) d p) task over.facts f e k.1 k.0) fs
      (each_both (λ f. formula_count (world d p) f ≤ 65536) (λ f. Each Known (formula_atoms (world d p) e f)) fs counted.0
      (each_flat_map (λ f. Each Known (formula_atoms (world d p) e f)) formulas_in xs
      (each_weaker (λ x. Each Known (preference_atoms (world d p) e x)) (λ x. Each (λ f. Each Known (formula_atoms (world d p) e f)) (formulas_in x))
      (λ x a. flat_map_each Known (formula_atoms (world d p) e) (formulas_in x) a) xs (flat_map_each Known (preference_atoms (world d p) e) xs h)))))))
      (and_in _ _
      (short-list (flat_map (λ x. flat_map (compared (grounding d p)) (comparisons_in (world d p) e x)) xs) (preference_weights (world d p) e xs) (length-preference_forms (grounding d p) e xs) few)
      (all_in (form_fits task) (flat_map (λ x. flat_map (compared (grounding d p)) (comparisons_in (world d p) e x)) xs)
      (each_flat_map (λ f. form_fits task f ≡ true) (λ x. flat_map (compared (grounding d p)) (comparisons_in (world d p) e x)) xs
      (each_everywhere (λ x. Each (λ f. form_fits task f ≡ true) (flat_map (compared (grounding d p)) (comparisons_in (world d p) e x)))
      (λ x. each_flat_map (λ f. form_fits task f ≡ true) (compared (grounding d p)) (comparisons_in (world d p) e x)
      (each_everywhere (λ t. Each (λ f. form_fits task f ≡ true) (compared (grounding d p) t)) (compared-fits (grounding d p) task over) (comparisons_in (world d p) e x))) xs)))))
      (preference-nonneg l.leaf.name)
    where
      xs : List PreferencePart
      xs = preference_parts (world d p) l.leaf.body

      fs : List FactForm
      fs = flat_map formulas_in (preference_parts (world d p) l.leaf.body)

      few : preference_weights (world d p) e xs ≤ 65536
      few = let a : preference_weights (world d p) e xs ≤ soft_count (world d p) l.leaf.body = soft-counted (world d p) l.leaf.body e in omega arith

      counted : Each (λ f. formula_count (world d p) f ≤ 65536) fs × (length fs ≤ 65536)
      counted = preference-formulas (world d p) e xs 65536 few

  preferences-few : list_all (λ l. fit_limits (around_count (world d p) l.around) (soft_count (world d p) l.leaf.body)) (goal_preferences p.goal) ≡ true
  unfolding bindings_fit
  preferences-few = and_right _ _ (and_left _ _ (and_left _ _ (and_left _ _ fit)))

  goal-softs : Each (λ s. soft_fits task s ≡ true) (flat_map (λ l. map (goal_soft (grounding d p) l) (leaf_envs (world d p) l)) (goal_preferences p.goal))
  goal-softs = each_flat_map (λ s. soft_fits task s ≡ true) (λ l. map (goal_soft (grounding d p) l) (leaf_envs (world d p) l)) (goal_preferences p.goal)
      (each_weaker (λ l. Preferred l × (fit_limits (around_count (world d p) l.around) (soft_count (world d p) l.leaf.body) ≡ true)) (λ l. Each (λ s. soft_fits task s ≡ true) (map (goal_soft (grounding d p) l) (leaf_envs (world d p) l)))
      (λ l h. each_map (λ s. soft_fits task s ≡ true) (goal_soft (grounding d p) l) (leaf_envs (world d p) l) (one l h.0 h.1)) (goal_preferences p.goal)
      (each_both Preferred (λ l. fit_limits (around_count (world d p) l.around) (soft_count (world d p) l.leaf.body) ≡ true) (goal_preferences p.goal)
      (preferences-mentioned (world d p) Known p.goal [] goal-known)
      (all_out (λ l. fit_limits (around_count (world d p) l.around) (soft_count (world d p) l.leaf.body)) (goal_preferences p.goal) preferences-few)))
    where
      one : (l : Leaf (Named SoftTree)) → Preferred l → fit_limits (around_count (world d p) l.around) (soft_count (world d p) l.leaf.body) ≡ true
          → Each (λ e. soft_fits task (goal_soft (grounding d p) l e) ≡ true) (leaf_envs (world d p) l)
      one l h k = ⊎_elim
          (λ e. subst (λ es. Each (λ e. soft_fits task (goal_soft (grounding d p) l e) ≡ true) es) (sym e) tt)
          (λ m. each_weaker (λ e. Each Known (flat_map (preference_atoms (world d p) e) (preference_parts (world d p) l.leaf.body))) (λ e. soft_fits task (goal_soft (grounding d p) l e) ≡ true) (goal_soft-fits l m) (nested_bindings (world d p) [] l.around) h)
          (few_or_none (nested_bindings (world d p) [] l.around) (around_count (world d p) l.around) (soft_count (world d p) l.leaf.body) (length-nested (world d p) [] l.around) k)

  costs-few : list_all (λ c. fit_limits 1 (formula_count (world d p) c.formula)) (costs p) ≡ true
  unfolding bindings_fit
  costs-few = and_right _ _ fit

  curve-fits : (f : FactTree) → tree_fits task f ≡ true → (c : CostCurve) → curve_fits c ≡ true → (q : ℚ) → (zeroℚ ≤? q) ≡ true → soft_fits task (soft_cost f c q) ≡ true
  curve-fits f h (curve.Three s m t) k q n = and_in _ _ (and_in _ _ (and_in _ _ (and_in _ _ h (and_left _ _ (and_left _ _ k))) (and_right _ _ (and_left _ _ k))) (and_right _ _ k)) n
  curve-fits f h (curve.Pieces ps) k q n = and_in _ _ (and_in _ _ (and_in _ _ (and_in _ _ h (and_left _ _ (and_left _ _ k))) (and_right _ _ (and_left _ _ k))) (and_right _ _ k)) n

  cost-softs : Each (λ s. soft_fits task s ≡ true) (map (λ c. soft_cost (formula (world d p) (fact_number (grounding d p)) [] c.formula) c.curve (cost_weight (grounding d p) c.name)) (costs p))
  cost-softs = each_map (λ s. soft_fits task s ≡ true) (λ c. soft_cost (formula (world d p) (fact_number (grounding d p)) [] c.formula) c.curve (cost_weight (grounding d p) c.name)) (costs p)
      (go (costs p) (flat_map_each Known (λ c. formula_atoms (world d p) [] c.formula) (costs p) costs-known)
      (all_out (λ c. fit_limits 1 (formula_count (world d p) c.formula)) (costs p) costs-few) (all_out (λ c. curve_fits c.curve) (costs p) ok.late))
    where
      go : (cs : List Cost) → Each (λ c. Each Known (formula_atoms (world d p) [] c.formula)) cs → Each (λ c. fit_limits 1 (formula_count (world d p) c.formula) ≡ true) cs → Each (λ c. curve_fits c.curve ≡ true) cs
          → Each (λ c. soft_fits task (soft_cost (formula (world d p) (fact_number (grounding d p)) [] c.formula) c.curve (cost_weight (grounding d p) c.name)) ≡ true) cs
      go [] h k m = tt
      go (c ∷ cs) h k m = (
        curve-fits (formula (world d p) (fact_number (grounding d p)) [] c.formula)
            (formula-fits (world d p) (fact_atoms (world d p) d p) task over.facts c.formula [] h.0 (single-limit (formula_count (world d p) c.formula) k.0)) c.curve m.0 (cost_weight (grounding d p) c.name) (cost-nonneg c.name),
        go cs h.1 k.1 m.1,
      )

  pub soft-fit : Each (λ s. soft_fits task s ≡ true) (soft_terms (grounding d p) p.goal (constraints d p) (costs p))
  unfolding soft_terms
  soft-fit = each_append (λ s. soft_fits task s ≡ true) (flat_map (λ l. map (goal_soft (grounding d p) l) (leaf_envs (world d p) l)) (goal_preferences p.goal) ++ flat_map (soft_of (grounding d p)) (constraints d p))
      (map (λ c. soft_cost (formula (world d p) (fact_number (grounding d p)) [] c.formula) c.curve (cost_weight (grounding d p) c.name)) (costs p))
      (each_append (λ s. soft_fits task s ≡ true) (flat_map (λ l. map (goal_soft (grounding d p) l) (leaf_envs (world d p) l)) (goal_preferences p.goal)) (flat_map (soft_of (grounding d p)) (constraints d p)) goal-softs soft-trails)
      cost-softs

  -- ---- the metric

  minimised-ascends : IsForm (minimised (world d p) d p)
  minimised-ascends = by p.metric
    where
      aimed : (a : Aim) (f : LinearForm) → IsForm f → IsForm (toward a f)
      aimed Minimize f h = h
      aimed Maximize f h = negative-ascends f

      by : (o : Option Metric) → IsForm (either (unknown (own_unknown (world d p))) (λ m. toward m.aim (form_or_zero (reckoned (world d p) (unknowns d p) [] m.expression))) o)
      by None = unknown-ascends (own_unknown (world d p))
      by (Some m) = aimed m.aim (form_or_zero (reckoned (world d p) (unknowns d p) [] m.expression)) (form-ascends (world d p) (unknowns d p) [] m.expression)

  pub metric-fits : ((zeroℚ ≤? (metric (grounding d p)).last) && form_fits task (metric (grounding d p)).fluents && ((metric (grounding d p)).fluents.constant =? zeroℚ)) ≡ true
  metric-fits = and_in _ _ (and_in _ _ (weight-nonneg (own_unknown (world d p)) (omega arith)) (over_fluents-fits (grounding d p) task over (minimised (world d p) d p) minimised-ascends)) zero-is
