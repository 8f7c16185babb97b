-- Where no phase finds an offence in a tree, all ground atoms of its bindings are bindings of their predicates.
use Rattle.std.proofs.Common.{◌≡◌, sym, subst, ◌∙◌, ℕ, Bool, true, false, if◌then◌else◌, List, [], ◌∷◌, ◌++◌, Option, Some, None, ◌==◌}
use Rattle.std.specs.List.{AllByRecursion as Each, flat_map}
use Rattle.basics.proofs.Lists.{each_append, nothing_left, nothing_right, nothing_each, each_map}
use Rattle.pddl_terms.specs.declared.files.Domain.{Domain}
use Rattle.pddl_terms.specs.declared.files.Problem.{Problem}
use Rattle.pddl_terms.specs.declared.trees.Atom.{Atom}
use Rattle.pddl_terms.specs.declared.trees.Comparison.TheVariants.{Equal}
use Rattle.pddl_terms.specs.declared.trees.CondTree.{CondTree}
use Rattle.pddl_terms.specs.declared.trees.CondTree.TheVariants as cond
use Rattle.pddl_terms.specs.declared.trees.ConForm.{ConForm}
use Rattle.pddl_terms.specs.declared.trees.FactForm.{FactForm}
use Rattle.pddl_terms.specs.declared.trees.FactForm.TheVariants as form
use Rattle.pddl_terms.specs.declared.trees.GoalTree.{GoalTree}
use Rattle.pddl_terms.specs.declared.trees.Group.{Group}
use Rattle.pddl_terms.specs.declared.trees.Side.{Side}
use Rattle.pddl_terms.specs.declared.trees.SoftTree.{SoftTree}
use Rattle.pddl_terms.specs.declared.trees.Trajectory.{Trajectory}
use Rattle.pddl_terms.specs.declared.trees.Trajectory.TheVariants as trail
use Rattle.pddl_names.specs.declared.declarations.Tables.{Tables}
use Rattle.pddl_names.specs.declared.offences.Offence.{Offence}
use Rattle.pddl_names.specs.declared.offences.Phase.TheVariants.{Names, Types}
use Rattle.pddl_names.specs.Declarations.{Typed}
use Rattle.pddl_names.specs.Equalities.{is_equality}
use Rattle.pddl_names.specs.Calls.{variables_offences, bind, atom_offences}
use Rattle.pddl_names.specs.Walks as names
use Rattle.pddl_forms.specs.declared.functions.Functions.{Functions}
use Rattle.pddl_forms.specs.declared.formulas.Around.{Around}
use Rattle.pddl_forms.specs.declared.formulas.Around.TheVariants as around
use Rattle.pddl_forms.specs.TypedLists.{typed_offences}
use Rattle.pddl_forms.specs.Conditions as conditions
use Rattle.pddl_forms.specs.Formulas as formulas
use Rattle.pddl_forms.specs.Goals as goals
use Rattle.pddl_forms.proofs.ConditionOffences as condition_form
use Rattle.pddl_forms.proofs.FormulaOffences as formula_form
use Rattle.pddl_forms.proofs.GoalOffences as goal_form
use Rattle.pddl_forms.proofs.Least.{concat-map, concat-map_at}
use Rattle.ground_world.specs.World.{Env, GroundAtom, ground_atom}
use Rattle.ground_world.specs.Bindings.{bindings}
use Rattle.ground_world.specs.FirstState.{world}
use Rattle.ground_world.specs.Conditions.{Part, Lit, Same, Compares, negated, condition_parts, side_object, side_expression, test}
use Rattle.ground_world.proofs.Walks as world_walk
use Rattle.grounder.specs.Accepted.{is_binding}
use Rattle.grounder.specs.Terms.{OfFacts, OfNumbers, part_atoms, formula_atoms, preference_atoms, preference_parts, goal_atoms, constraint_atoms, watched, watched_atoms}
use Rattle.grounder.proofs.Each.{each_weaker, each_flat_map}
use Rattle.grounder.proofs.Inductions.{each_condition, each_formula, each_preference, each_goal, each_constraint}
use Rattle.grounder.proofs.Walks as walk
use Rattle.accepted_files.specs.Clean.{TypesAreNamed}
use Rattle.accepted_files.proofs.OffenceWalks as offence
use Rattle.accepted_files.proofs.Atoms.{Knows, Binds, bound-inside, atom-binds}

-- what each part gives where it has no offence of three kinds
pub each_part : {T : Type 0} (n t f : T → List Offence) (R : T → Type 0) (xs : List T) → Each (λ x. n x ≡ [] → t x ≡ [] → f x ≡ [] → R x) xs
    → Each (λ x. n x ≡ []) xs → Each (λ x. t x ≡ []) xs → Each (λ x. f x ≡ []) xs → Each R xs
each_part n t f R [] h a b c = tt
each_part n t f R (x ∷ xs) h a b c = (h.0 a.0 b.0 c.0, each_part n t f R xs h.1 a.1 b.1 c.1)

module _ (d : Domain) (p : Problem) (named : TypesAreNamed d) (w : Tables) (knows : Knows d p w) (fs : Functions) where
  abbrev pub Scoped : Env → List Typed → Type 0
  Scoped env scope = Binds d p named w knows env scope

  -- the ground atom is a binding of its predicate
  abbrev pub Bound : GroundAtom → Type 0
  Bound a = is_binding (world d p) d.predicates a ≡ true

  abbrev pub Bounded : List Part → Type 0
  Bounded ps = Each (λ x. Each Bound (part_atoms x)) ps

  -- what holds under each binding of a list of variables
  inside : (R : Env → Type 0) (env : Env) (scope : List Typed) (groups : List Group) → Scoped env scope → variables_offences Names w groups ≡ [] → typed_offences groups ≡ []
      → ((e : Env) → Scoped e (bind groups scope) → R e) → Each R (bindings (world d p) env groups)
  inside R env scope groups b n f h = each_weaker (λ e. Scoped e (bind groups scope)) R h (bindings (world d p) env groups) (bound-inside d p named w knows env scope groups n f b)

  atom : (env : Env) (scope : List Typed) (a : Atom) → Scoped env scope → atom_offences Names w scope a ≡ [] → atom_offences Types w scope a ≡ [] → Bound (ground_atom (world d p) env a)
  atom env scope a b n t = atom-binds d p named w knows env scope b a n t

  -- ---- conditions

  abbrev pub ConditionBound : CondTree → Type 0
  ConditionBound c = (env : Env) (scope : List Typed) (above : Option ℕ) → Scoped env scope → names.condition_offences Names w scope c ≡ [] → names.condition_offences Types w scope c ≡ []
      → conditions.condition_below fs above c ≡ [] → Bounded (condition_parts (world d p) env c)

  turned : (x : Part) → Each Bound (part_atoms x) → Each Bound (part_atoms (negated x))
  turned (Lit a holds) h = h
  turned (Same holds) h = h
  turned (Compares t) h = h

  condition_and : (a : ℕ) (cs : List CondTree) → Each ConditionBound cs → ConditionBound (cond.And a cs)
  condition_and a cs h env scope above b n t f =
      subst Bounded (sym (world_walk.condition_parts-And (world d p) env a cs ∙ concat-map_at (λ c e. condition_parts (world d p) e c) env cs))
      (each_flat_map (λ x. Each Bound (part_atoms x)) (condition_parts (world d p) env) cs
      (each_part (names.condition_offences Names w scope) (names.condition_offences Types w scope) (conditions.condition_below fs None) (λ c. Bounded (condition_parts (world d p) env c)) cs
      (each_weaker ConditionBound (λ c. names.condition_offences Names w scope c ≡ [] → names.condition_offences Types w scope c ≡ [] → conditions.condition_below fs None c ≡ [] → Bounded (condition_parts (world d p) env c)) (λ c k. k env scope None b) cs h)
      (nothing_each (names.condition_offences Names w scope) cs (sym (offence.condition-And Names w scope a cs) ∙ n))
      (nothing_each (names.condition_offences Types w scope) cs (sym (offence.condition-And Types w scope a cs) ∙ t))
      (nothing_each (conditions.condition_below fs None) cs (sym (condition_form.condition_below-and fs above a cs) ∙ f))))

  condition_forall : (a : ℕ) (groups : List Group) (c : CondTree) → ConditionBound c → ConditionBound (cond.Forall a groups c)
  condition_forall a groups c h env scope above b n t f =
      let n' = sym (offence.condition-Forall Names w scope a groups c) ∙ n in
      let t' = sym (offence.condition-Forall Types w scope a groups c) ∙ t in
      let f' = sym (condition_form.condition_below-forall fs above a groups c) ∙ f in
      subst Bounded (sym (world_walk.condition_parts-Forall (world d p) env a groups c))
      (each_flat_map (λ x. Each Bound (part_atoms x)) (λ e. condition_parts (world d p) e c) (bindings (world d p) env groups)
      (inside (λ e. Bounded (condition_parts (world d p) e c)) env scope groups b (nothing_left _ _ n') (nothing_left _ _ f')
      (λ e k. h e (bind groups scope) None k (nothing_right _ _ n') t' (nothing_right _ _ f'))))

  -- an `=` has no literal
  condition_equal : (a : ℕ) (l r : Side) → ConditionBound (cond.Equal a l r)
  condition_equal a l r env scope above b n t f = subst Bounded (sym (world_walk.condition_parts-Equal (world d p) env a l r)) (by (is_equality (world d p).functions l r), tt)
    where
      by : (c : Bool) → Each Bound (part_atoms (if c then Same (side_object (world d p) env l == side_object (world d p) env r) else Compares (test env a Equal (side_expression l) (side_expression r))))
      by true = tt
      by false = tt

  pub condition-bound : (c : CondTree) → ConditionBound c
  condition-bound = each_condition ConditionBound
      (λ a env scope above b n t f. subst Bounded (sym (world_walk.condition_parts-Empty (world d p) env a)) tt)
      condition_and
      condition_forall
      (λ a env scope above b n t f. subst Bounded (sym (world_walk.condition_parts-Atom (world d p) env a))
      ((atom env scope a b (sym (offence.condition-Atom Names w scope a) ∙ n) (sym (offence.condition-Atom Types w scope a) ∙ t), tt), tt))
      (λ a c h env scope above b n t f. subst Bounded (sym (world_walk.condition_parts-Not (world d p) env a c))
      (each_map (λ x. Each Bound (part_atoms x)) negated (condition_parts (world d p) env c)
      (each_weaker (λ x. Each Bound (part_atoms x)) (λ x. Each Bound (part_atoms (negated x))) turned (condition_parts (world d p) env c)
      (h env scope (Some a) b (sym (offence.condition-Not Names w scope a c) ∙ n) (sym (offence.condition-Not Types w scope a c) ∙ t)
      (nothing_right _ _ (sym (condition_form.condition_below-not fs above a c) ∙ f))))))
      condition_equal
      (λ a m l r env scope above b n t f. subst Bounded (sym (world_walk.condition_parts-Compare (world d p) env a m l r)) (tt, tt))
      (λ a env scope above b n t f. subst Bounded (sym (world_walk.condition_parts-LeftOut (world d p) env a)) tt)

  -- ---- formulas

  abbrev pub FormulaBound : FactForm → Type 0
  FormulaBound f = (env : Env) (scope : List Typed) (outside : Around) → Scoped env scope → names.formula_offences Names w scope f ≡ [] → names.formula_offences Types w scope f ≡ []
      → formulas.formula_in fs outside f ≡ [] → Each Bound (formula_atoms (world d p) env f)

  formulas_each : (fms : List FactForm) → Each FormulaBound fms → (env : Env) (scope : List Typed) → Scoped env scope → flat_map (names.formula_offences Names w scope) fms ≡ []
      → flat_map (names.formula_offences Types w scope) fms ≡ [] → flat_map (formulas.formula_in fs around.Formula) fms ≡ [] → Each Bound (flat_map (formula_atoms (world d p) env) fms)
  formulas_each fms h env scope b n t f = each_flat_map Bound (formula_atoms (world d p) env) fms
      (each_part (names.formula_offences Names w scope) (names.formula_offences Types w scope) (formulas.formula_in fs around.Formula) (λ x. Each Bound (formula_atoms (world d p) env x)) fms
      (each_weaker FormulaBound (λ x. names.formula_offences Names w scope x ≡ [] → names.formula_offences Types w scope x ≡ [] → formulas.formula_in fs around.Formula x ≡ [] → Each Bound (formula_atoms (world d p) env x)) (λ x k. k env scope around.Formula b) fms h)
      (nothing_each (names.formula_offences Names w scope) fms n) (nothing_each (names.formula_offences Types w scope) fms t) (nothing_each (formulas.formula_in fs around.Formula) fms f))

  -- what a quantifier's body gives under each binding
  quantified : (groups : List Group) (x : FactForm) → FormulaBound x → (env : Env) (scope : List Typed) → Scoped env scope → variables_offences Names w groups ++ names.formula_offences Names w (bind groups scope) x ≡ []
      → variables_offences Types w groups ++ names.formula_offences Types w (bind groups scope) x ≡ [] → typed_offences groups ++ formulas.formula_in fs around.Formula x ≡ []
      → Each Bound (flat_map (λ e. formula_atoms (world d p) e x) (bindings (world d p) env groups))
  quantified groups x h env scope b n t f = each_flat_map Bound (λ e. formula_atoms (world d p) e x) (bindings (world d p) env groups)
      (inside (λ e. Each Bound (formula_atoms (world d p) e x)) env scope groups b (nothing_left _ _ n) (nothing_left _ _ f)
      (λ e k. h e (bind groups scope) around.Formula k (nothing_right _ _ n) t (nothing_right _ _ f)))

  pub formula-bound : (f : FactForm) → FormulaBound f
  formula-bound = each_formula FormulaBound
      (λ a env scope o b n t f. subst (Each Bound) (sym (walk.formula_atoms-Empty (world d p) env a)) tt)
      (λ a env scope o b n t f. subst (Each Bound) (sym (walk.formula_atoms-Atom (world d p) env a))
      (atom env scope a b (sym (offence.formula-Atom Names w scope a) ∙ n) (sym (offence.formula-Atom Types w scope a) ∙ t), tt))
      (λ a l r env scope o b n t f. subst (Each Bound) (sym (walk.formula_atoms-Equal (world d p) env a l r)) tt)
      (λ a fms h env scope o b n t f. subst (Each Bound) (sym (walk.formula_atoms-And (world d p) env a fms ∙ concat-map_at (λ x e. formula_atoms (world d p) e x) env fms))
      (formulas_each fms h env scope b (sym (offence.formula-And Names w scope a fms) ∙ n) (sym (offence.formula-And Types w scope a fms) ∙ t) (sym (formula_form.formula_in-and fs o a fms) ∙ f)))
      (λ a fms h env scope o b n t f. subst (Each Bound) (sym (walk.formula_atoms-Or (world d p) env a fms ∙ concat-map_at (λ x e. formula_atoms (world d p) e x) env fms))
      (formulas_each fms h env scope b (sym (offence.formula-Or Names w scope a fms) ∙ n) (sym (offence.formula-Or Types w scope a fms) ∙ t) (sym (formula_form.formula_in-or fs o a fms) ∙ f)))
      (λ a x h env scope o b n t f. subst (Each Bound) (sym (walk.formula_atoms-Not (world d p) env a x))
      (h env scope (formulas.below_not o a) b (sym (offence.formula-Not Names w scope a x) ∙ n) (sym (offence.formula-Not Types w scope a x) ∙ t) (sym (formula_form.formula_in-not fs o a x) ∙ f)))
      (λ a x y h k env scope o b n t f. let n' = sym (offence.formula-Imply Names w scope a x y) ∙ n in let t' = sym (offence.formula-Imply Types w scope a x y) ∙ t in let f' = sym (formula_form.formula_in-imply fs o a x y) ∙ f in
      subst (Each Bound) (sym (walk.formula_atoms-Imply (world d p) env a x y))
      (each_append Bound (formula_atoms (world d p) env x) (formula_atoms (world d p) env y)
      (h env scope around.Formula b (nothing_left _ _ n') (nothing_left _ _ t') (nothing_left _ _ f')) (k env scope around.Formula b (nothing_right _ _ n') (nothing_right _ _ t') (nothing_right _ _ f'))))
      (λ a gs x h env scope o b n t f. subst (Each Bound) (sym (walk.formula_atoms-Exists (world d p) env a gs x))
      (quantified gs x h env scope b (sym (offence.formula-Exists Names w scope a gs x) ∙ n) (sym (offence.formula-Exists Types w scope a gs x) ∙ t) (sym (formula_form.formula_in-exists fs o a gs x) ∙ f)))
      (λ a gs x h env scope o b n t f. subst (Each Bound) (sym (walk.formula_atoms-Forall (world d p) env a gs x))
      (quantified gs x h env scope b (sym (offence.formula-Forall Names w scope a gs x) ∙ n) (sym (offence.formula-Forall Types w scope a gs x) ∙ t) (sym (formula_form.formula_in-forall fs o a gs x) ∙ f)))
      (λ a env scope o b n t f. subst (Each Bound) (sym (walk.formula_atoms-LeftOut (world d p) env a)) tt)

  -- ---- constraints

  two : (x y : FactForm) (env : Env) (scope : List Typed) → Scoped env scope → names.formula_offences Names w scope x ++ names.formula_offences Names w scope y ≡ []
      → names.formula_offences Types w scope x ++ names.formula_offences Types w scope y ≡ [] → formulas.formula_offences fs x ++ formulas.formula_offences fs y ≡ []
      → Each Bound (formula_atoms (world d p) env x ++ formula_atoms (world d p) env y)
  two x y env scope b n t f = each_append Bound (formula_atoms (world d p) env x) (formula_atoms (world d p) env y)
      (formula-bound x env scope around.Formula b (nothing_left _ _ n) (nothing_left _ _ t) (nothing_left _ _ f)) (formula-bound y env scope around.Formula b (nothing_right _ _ n) (nothing_right _ _ t) (nothing_right _ _ f))

  -- a constraint with one formula, which has `( )` for its second
  one : (x : FactForm) (env : Env) (scope : List Typed) → Scoped env scope → names.formula_offences Names w scope x ≡ [] → names.formula_offences Types w scope x ≡ []
      → formulas.formula_offences fs x ≡ [] → Each Bound (formula_atoms (world d p) env x ++ formula_atoms (world d p) env (form.Empty 0))
  one x env scope b n t f = each_append Bound (formula_atoms (world d p) env x) (formula_atoms (world d p) env (form.Empty 0))
      (formula-bound x env scope around.Formula b n t f) (subst (Each Bound) (sym (walk.formula_atoms-Empty (world d p) env 0)) tt)

  watched-bound : (t : Trajectory) (env : Env) (scope : List Typed) → Scoped env scope → names.trajectory_offences Names w scope t ≡ [] → names.trajectory_offences Types w scope t ≡ []
      → formulas.trajectory_offences fs t ≡ [] → Each Bound (watched_atoms (world d p) env (watched t))
  watched-bound (trail.Always at f) env scope b n t o = one f env scope b n t o
  watched-bound (trail.Sometime at f) env scope b n t o = one f env scope b n t o
  watched-bound (trail.Within at m f) env scope b n t o = one f env scope b n t o
  watched-bound (trail.AtMostOnce at f) env scope b n t o = one f env scope b n t o
  watched-bound (trail.SometimeAfter at f g) env scope b n t o = two f g env scope b n t o
  watched-bound (trail.SometimeBefore at f g) env scope b n t o = two f g env scope b n t o
  watched-bound (trail.AtEnd at f) env scope b n t o = one f env scope b n t o
  watched-bound (trail.LeftOut at) env scope b n t o = cc

  abbrev pub ConstraintBound : ConForm → Type 0
  ConstraintBound c = (env : Env) (scope : List Typed) → Scoped env scope → names.constraint_offences Names w scope c ≡ [] → names.constraint_offences Types w scope c ≡ []
      → formulas.constraint_offences fs c ≡ [] → Each Bound (constraint_atoms (world d p) env c)

  pub constraint-bound : (c : ConForm) → ConstraintBound c
  constraint-bound = each_constraint ConstraintBound
      (λ a cs h env scope b n t f. subst (Each Bound) (sym (walk.constraint_atoms-And (world d p) env a cs ∙ concat-map_at (λ c e. constraint_atoms (world d p) e c) env cs))
      (each_flat_map Bound (constraint_atoms (world d p) env) cs
      (each_part (names.constraint_offences Names w scope) (names.constraint_offences Types w scope) (formulas.constraint_offences fs) (λ c. Each Bound (constraint_atoms (world d p) env c)) cs
      (each_weaker ConstraintBound (λ c. names.constraint_offences Names w scope c ≡ [] → names.constraint_offences Types w scope c ≡ [] → formulas.constraint_offences fs c ≡ [] → Each Bound (constraint_atoms (world d p) env c)) (λ c k. k env scope b) cs h)
      (nothing_each (names.constraint_offences Names w scope) cs (sym (offence.constraint-And Names w scope a cs) ∙ n))
      (nothing_each (names.constraint_offences Types w scope) cs (sym (offence.constraint-And Types w scope a cs) ∙ t))
      (nothing_each (formulas.constraint_offences fs) cs (sym (formula_form.constraint_offences-and fs a cs) ∙ f)))))
      (λ a gs c h env scope b n t f. let n' = sym (offence.constraint-Forall Names w scope a gs c) ∙ n in let t' = sym (offence.constraint-Forall Types w scope a gs c) ∙ t in let f' = sym (formula_form.constraint_offences-forall fs a gs c) ∙ f in
      subst (Each Bound) (sym (walk.constraint_atoms-Forall (world d p) env a gs c))
      (each_flat_map Bound (λ e. constraint_atoms (world d p) e c) (bindings (world d p) env gs)
      (inside (λ e. Each Bound (constraint_atoms (world d p) e c)) env scope gs b (nothing_left _ _ n') (nothing_left _ _ f')
      (λ e k. h e (bind gs scope) k (nothing_right _ _ n') t' (nothing_right _ _ f')))))
      (λ x env scope b n t f. subst (Each Bound) (sym (walk.constraint_atoms-Hard (world d p) env x))
      (watched-bound x env scope b (sym (offence.constraint-Hard Names w scope x) ∙ n) (sym (offence.constraint-Hard Types w scope x) ∙ t) (sym (formula_form.constraint_offences-hard fs x) ∙ f)))
      (λ a m x env scope b n t f. subst (Each Bound) (sym (walk.constraint_atoms-Preference (world d p) env a m x))
      (watched-bound x env scope b (sym (offence.constraint-Preference Names w scope a m x) ∙ n) (sym (offence.constraint-Preference Types w scope a m x) ∙ t) (sym (formula_form.constraint_offences-preference fs a m x) ∙ f)))

  -- ---- goals

  abbrev SoftBound : SoftTree → Type 0
  SoftBound s = (env : Env) (scope : List Typed) → Scoped env scope → names.soft_offences Names w scope s ≡ [] → names.soft_offences Types w scope s ≡ []
      → goals.soft_offences fs s ≡ [] → Each (λ x. Each Bound (preference_atoms (world d p) env x)) (preference_parts (world d p) s)

  soft-bound : (s : SoftTree) → SoftBound s
  soft-bound = each_preference SoftBound
      (λ x env scope b n t f. subst (Each (λ y. Each Bound (preference_atoms (world d p) env y))) (sym (walk.preference_parts-Formula (world d p) x)) (
        each_append Bound (formula_atoms (world d p) env x) []
            (formula-bound x env scope around.Preference b (sym (offence.soft-Formula Names w scope x) ∙ n) (sym (offence.soft-Formula Types w scope x) ∙ t) (sym (goal_form.soft_offences-formula fs x) ∙ f)) tt,
        tt,
      ))
      (λ a l r env scope b n t f. subst (Each (λ y. Each Bound (preference_atoms (world d p) env y))) (sym (walk.preference_parts-Equal (world d p) a l r)) (sides env a l r (is_equality (world d p).functions l r), tt))
      (λ c env scope b n t f. subst (Each (λ y. Each Bound (preference_atoms (world d p) env y))) (sym (walk.preference_parts-Comparison (world d p) c)) (tt, tt))
      (λ a ss h env scope b n t f. subst (Each (λ y. Each Bound (preference_atoms (world d p) env y))) (sym (walk.preference_parts-And (world d p) a ss ∙ concat-map (preference_parts (world d p)) ss))
      (each_flat_map (λ y. Each Bound (preference_atoms (world d p) env y)) (preference_parts (world d p)) ss
      (each_part (names.soft_offences Names w scope) (names.soft_offences Types w scope) (goals.soft_offences fs) (λ s. Each (λ y. Each Bound (preference_atoms (world d p) env y)) (preference_parts (world d p) s)) ss
      (each_weaker SoftBound (λ s. names.soft_offences Names w scope s ≡ [] → names.soft_offences Types w scope s ≡ [] → goals.soft_offences fs s ≡ [] → Each (λ y. Each Bound (preference_atoms (world d p) env y)) (preference_parts (world d p) s)) (λ s k. k env scope b) ss h)
      (nothing_each (names.soft_offences Names w scope) ss (sym (offence.soft-And Names w scope a ss) ∙ n))
      (nothing_each (names.soft_offences Types w scope) ss (sym (offence.soft-And Types w scope a ss) ∙ t))
      (nothing_each (goals.soft_offences fs) ss (sym (goal_form.soft_offences-and fs a ss) ∙ f)))))
    where
      -- an `=` mentions no fact
      sides : (env : Env) (a : ℕ) (l r : Side) (c : Bool) → Each Bound (preference_atoms (world d p) env (if c then OfFacts (form.Equal a l r) else OfNumbers (cond.Equal a l r)))
      sides env a l r true = each_append Bound (formula_atoms (world d p) env (form.Equal a l r)) [] (subst (Each Bound) (sym (walk.formula_atoms-Equal (world d p) env a l r)) tt) tt
      sides env a l r false = tt

  abbrev pub GoalBound : GoalTree → Type 0
  GoalBound g = (env : Env) (scope : List Typed) → Scoped env scope → names.goal_offences Names w scope g ≡ [] → names.goal_offences Types w scope g ≡ []
      → goals.goal_offences fs g ≡ [] → Each Bound (goal_atoms (world d p) env g)

  pub goal-bound : (g : GoalTree) → GoalBound g
  goal-bound = each_goal GoalBound
      (λ c env scope b n t f. subst (Each Bound) (sym (walk.goal_atoms-Condition (world d p) env c))
      (each_flat_map Bound part_atoms (condition_parts (world d p) env c)
      (condition-bound c env scope None b (sym (offence.goal-Condition Names w scope c) ∙ n) (sym (offence.goal-Condition Types w scope c) ∙ t) (sym (goal_form.goal_offences-condition fs c) ∙ f))))
      (λ a gs h env scope b n t f. subst (Each Bound) (sym (walk.goal_atoms-And (world d p) env a gs ∙ concat-map_at (λ g e. goal_atoms (world d p) e g) env gs))
      (each_flat_map Bound (goal_atoms (world d p) env) gs
      (each_part (names.goal_offences Names w scope) (names.goal_offences Types w scope) (goals.goal_offences fs) (λ g. Each Bound (goal_atoms (world d p) env g)) gs
      (each_weaker GoalBound (λ g. names.goal_offences Names w scope g ≡ [] → names.goal_offences Types w scope g ≡ [] → goals.goal_offences fs g ≡ [] → Each Bound (goal_atoms (world d p) env g)) (λ g k. k env scope b) gs h)
      (nothing_each (names.goal_offences Names w scope) gs (sym (offence.goal-And Names w scope a gs) ∙ n))
      (nothing_each (names.goal_offences Types w scope) gs (sym (offence.goal-And Types w scope a gs) ∙ t))
      (nothing_each (goals.goal_offences fs) gs (sym (goal_form.goal_offences-and fs a gs) ∙ f)))))
      (λ a gs g h env scope b n t f. let n' = sym (offence.goal-Forall Names w scope a gs g) ∙ n in let t' = sym (offence.goal-Forall Types w scope a gs g) ∙ t in let f' = sym (goal_form.goal_offences-forall fs a gs g) ∙ f in
      subst (Each Bound) (sym (walk.goal_atoms-Forall (world d p) env a gs g))
      (each_flat_map Bound (λ e. goal_atoms (world d p) e g) (bindings (world d p) env gs)
      (inside (λ e. Each Bound (goal_atoms (world d p) e g)) env scope gs b (nothing_left _ _ n') (nothing_left _ _ f')
      (λ e k. h e (bind gs scope) k (nothing_right _ _ n') t' (nothing_right _ _ f')))))
      (λ a m s env scope b n t f. subst (Each Bound) (sym (walk.goal_atoms-Preference (world d p) env a m s))
      (each_flat_map Bound (preference_atoms (world d p) env) (preference_parts (world d p) s)
      (soft-bound s env scope b (sym (offence.goal-Preference Names w scope a m s) ∙ n) (sym (offence.goal-Preference Types w scope a m s) ∙ t) (sym (goal_form.goal_offences-preference fs a m s) ∙ f))))
