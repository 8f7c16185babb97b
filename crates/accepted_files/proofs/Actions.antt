-- Where no phase finds an offence in an action, all ground atoms of its bindings are bindings of their predicates.
use Rattle.std.proofs.Common.{◌≡◌, refl, sym, subst, ◌∙◌, ℕ, true, List, [], ◌++◌, map, Some, None}
use Rattle.std.specs.List.{AllByRecursion as Each, flat_map, list_all}
use Rattle.std.specs.Option.{option_map_or}
use Rattle.basics.proofs.Lists.{all_in, each_append, each_first, nothing_left, nothing_right, nothing_each, each_map}
use Rattle.pddl_terms.specs.declared.files.ActionBody.{ActionBody}
use Rattle.pddl_terms.specs.declared.files.ActionBody.TheVariants.{Instant, Durative}
use Rattle.pddl_terms.specs.declared.files.ActionDef.{ActionDef}
use Rattle.pddl_terms.specs.declared.files.Domain.{Domain}
use Rattle.pddl_terms.specs.declared.files.Problem.{Problem}
use Rattle.pddl_terms.specs.declared.trees.Atom.{Atom}
use Rattle.pddl_terms.specs.declared.trees.Call.{Call}
use Rattle.pddl_terms.specs.declared.trees.Call.TheVariants as call
use Rattle.pddl_terms.specs.declared.trees.ChangeKind.{ChangeKind}
use Rattle.pddl_terms.specs.declared.trees.CondTree.{CondTree}
use Rattle.pddl_terms.specs.declared.trees.EffTree.{EffTree, ind-EffTree, map-EffTree, roll-EffTree}
use Rattle.pddl_terms.specs.declared.trees.EffTree.TheOpen.{EffTree-F}
use Rattle.pddl_terms.specs.declared.trees.EffTree.TheVariants as eff
use Rattle.pddl_terms.specs.declared.trees.ExprTree.{ExprTree}
use Rattle.pddl_terms.specs.declared.trees.RateTree.{RateTree}
use Rattle.pddl_terms.specs.declared.trees.TimedCond.{TimedCond}
use Rattle.pddl_terms.specs.declared.trees.TimedEff.{TimedEff, ind-TimedEff, map-TimedEff, roll-TimedEff}
use Rattle.pddl_terms.specs.declared.trees.TimedEff.TheOpen.{TimedEff-F}
use Rattle.pddl_terms.specs.declared.trees.TimedEff.TheVariants as teff
use Rattle.pddl_terms.specs.declared.trees.Trend.{Trend}
use Rattle.pddl_names.specs.declared.declarations.Tables.{Tables}
use Rattle.pddl_names.specs.declared.offences.Offence.{Offence}
use Rattle.pddl_names.specs.declared.offences.Phase.TheVariants.{Names, Types}
use Rattle.pddl_names.specs.Declarations.{Typed}
use Rattle.pddl_names.specs.Calls.{variables_offences, bind}
use Rattle.pddl_names.specs.Walks as names
use Rattle.pddl_names.specs.Files as files
use Rattle.pddl_forms.specs.declared.functions.Functions.{Functions}
use Rattle.pddl_forms.specs.TypedLists.{typed_offences}
use Rattle.pddl_forms.specs.Conditions as conditions
use Rattle.pddl_forms.specs.Effects as effects
use Rattle.pddl_forms.specs.Forms as forms
use Rattle.pddl_forms.proofs.ConditionOffences as condition_form
use Rattle.pddl_forms.proofs.Least.{concat-map}
use Rattle.ground_world.specs.World.{Env, columns, variable_names}
use Rattle.ground_world.specs.Bindings.{choices, paired}
use Rattle.ground_world.specs.declared.changes.Stage.{Stage}
use Rattle.ground_world.specs.declared.changes.Stage.TheVariants.{AtStart, OverAll, AtEnd}
use Rattle.ground_world.specs.Changes.{Staged, staged, Change, Deletes, Moves, Flows, atoms_in, effect_parts, timed_effect_parts, body_changes, changes}
use Rattle.ground_world.specs.FirstState.{world}
use Rattle.ground_world.specs.Conditions.{Part, condition_parts, timed_condition_parts, body_conditions}
use Rattle.ground_world.proofs.Walks as world_walk
use Rattle.grounder.specs.Instances.{instances_of, conditions_of}
use Rattle.grounder.specs.Accepted.{is_binding, changed_atoms, instance_atoms}
use Rattle.grounder.specs.Terms.{part_atoms}
use Rattle.grounder.proofs.Each.{each_weaker, map_each, each_flat_map, each_everywhere}
use Rattle.grounder.proofs.Inductions.{each_timed_condition}
use Rattle.accepted_files.specs.Clean.{TypesAreNamed}
use Rattle.accepted_files.proofs.OffenceWalks as offence
use Rattle.accepted_files.proofs.Atoms.{Knows, binds-nothing, bound-inside, atom-binds}
use Rattle.accepted_files.proofs.Trees.{each_part, Scoped, Bound, Bounded, condition-bound}

-- ---- what holds of each effect where it holds of its parts

module _ (P : EffTree → Type 0)
    (of_Empty : (a : ℕ) → P (eff.Empty a))
    (of_And : (a : ℕ) (b : List EffTree) → Each P b → P (eff.And a b))
    (of_Add : (a : Atom) → P (eff.Add a))
    (of_Delete : (a : ℕ) (b : Call) → P (eff.Delete a b))
    (of_Change : (a : ℕ) (b : ChangeKind) (c : Call) (d : ExprTree) → P (eff.Change a b c d))
    (of_LeftOut : (a : ℕ) → P (eff.LeftOut a)) where
  layer_effect : (y : EffTree-F ((t : EffTree) × P t)) → P (roll-EffTree (map-EffTree ((t : EffTree) × P t) EffTree (λ e. e.0) y))
  layer_effect (EffTree-F.Empty a) = subst P (sym (eff.rolls-Empty a)) (of_Empty a)
  layer_effect (EffTree-F.And a b) = subst P (sym (eff.rolls-And a (map (λ e. e.0) b))) (of_And a (map (λ e. e.0) b) (each_first P b))
  layer_effect (EffTree-F.Add a) = subst P (sym (eff.rolls-Add a)) (of_Add a)
  layer_effect (EffTree-F.Delete a b) = subst P (sym (eff.rolls-Delete a b)) (of_Delete a b)
  layer_effect (EffTree-F.Change a b c d) = subst P (sym (eff.rolls-Change a b c d)) (of_Change a b c d)
  layer_effect (EffTree-F.LeftOut a) = subst P (sym (eff.rolls-LeftOut a)) (of_LeftOut a)

  each_effect : (t : EffTree) → P t
  each_effect = ind-EffTree P (λ x y is. subst (λ z. P (roll-EffTree z)) is (layer_effect y))

module _ (P : TimedEff → Type 0)
    (of_Empty : (a : ℕ) → P (teff.Empty a))
    (of_And : (a : ℕ) (b : List TimedEff) → Each P b → P (teff.And a b))
    (of_AtStart : (a : ℕ) (b : EffTree) → P (teff.AtStart a b))
    (of_AtEnd : (a : ℕ) (b : EffTree) → P (teff.AtEnd a b))
    (of_Rate : (a : ℕ) (b : Trend) (c : Call) (d : RateTree) → P (teff.Rate a b c d))
    (of_LeftOut : (a : ℕ) → P (teff.LeftOut a)) where
  layer_timed_effect : (y : TimedEff-F ((t : TimedEff) × P t)) → P (roll-TimedEff (map-TimedEff ((t : TimedEff) × P t) TimedEff (λ e. e.0) y))
  layer_timed_effect (TimedEff-F.Empty a) = subst P (sym (teff.rolls-Empty a)) (of_Empty a)
  layer_timed_effect (TimedEff-F.And a b) = subst P (sym (teff.rolls-And a (map (λ e. e.0) b))) (of_And a (map (λ e. e.0) b) (each_first P b))
  layer_timed_effect (TimedEff-F.AtStart a b) = subst P (sym (teff.rolls-AtStart a b)) (of_AtStart a b)
  layer_timed_effect (TimedEff-F.AtEnd a b) = subst P (sym (teff.rolls-AtEnd a b)) (of_AtEnd a b)
  layer_timed_effect (TimedEff-F.Rate a b c d) = subst P (sym (teff.rolls-Rate a b c d)) (of_Rate a b c d)
  layer_timed_effect (TimedEff-F.LeftOut a) = subst P (sym (teff.rolls-LeftOut a)) (of_LeftOut a)

  each_timed_effect : (t : TimedEff) → P t
  each_timed_effect = ind-TimedEff P (λ x y is. subst (λ z. P (roll-TimedEff z)) is (layer_timed_effect y))

module _ (d : Domain) (p : Problem) (named : TypesAreNamed d) (w : Tables) (knows : Knows d p w) (fs : Functions) where
  abbrev In : Env → List Typed → Type 0
  In env scope = Scoped d p named w knows fs env scope

  abbrev Fact : List Part → Type 0
  Fact ps = Bounded d p named w knows fs ps

  -- ---- conditions

  abbrev StagedParts : List (Staged Part) → Type 0
  StagedParts xs = Each (λ x. Each (Bound d p named w knows fs) (part_atoms x.part)) xs

  at_stage : (s : Stage) (env : Env) (scope : List Typed) (c : CondTree) → In env scope → names.condition_offences Names w scope c ≡ [] → names.condition_offences Types w scope c ≡ []
      → conditions.condition_offences fs c ≡ [] → StagedParts (staged s (condition_parts (world d p) env c))
  at_stage s env scope c b n t f = each_map (λ x. Each (Bound d p named w knows fs) (part_atoms x.part)) (λ x. record { stage = s; part = x }) (condition_parts (world d p) env c)
      (condition-bound d p named w knows fs c env scope None b n t f)

  abbrev TimedBound : TimedCond → Type 0
  TimedBound c = (env : Env) (scope : List Typed) → In env scope → names.timed_condition_offences Names w scope c ≡ [] → names.timed_condition_offences Types w scope c ≡ []
      → conditions.timed_condition_offences fs c ≡ [] → StagedParts (timed_condition_parts (world d p) env c)

  timed-bound : (c : TimedCond) → TimedBound c
  timed-bound = each_timed_condition TimedBound
      (λ a env scope b n t f. subst StagedParts (sym (world_walk.timed_condition_parts-Empty (world d p) env a)) tt)
      (λ a cs h env scope b n t f. subst StagedParts (sym (world_walk.timed_condition_parts-And (world d p) env a cs ∙ concat-map (timed_condition_parts (world d p) env) cs))
      (each_flat_map (λ x. Each (Bound d p named w knows fs) (part_atoms x.part)) (timed_condition_parts (world d p) env) cs
      (each_part (names.timed_condition_offences Names w scope) (names.timed_condition_offences Types w scope) (conditions.timed_condition_offences fs) (λ c. StagedParts (timed_condition_parts (world d p) env c)) cs
      (each_weaker TimedBound (λ c. names.timed_condition_offences Names w scope c ≡ [] → names.timed_condition_offences Types w scope c ≡ [] → conditions.timed_condition_offences fs c ≡ [] → StagedParts (timed_condition_parts (world d p) env c)) (λ c k. k env scope b) cs h)
      (nothing_each (names.timed_condition_offences Names w scope) cs (sym (offence.timed_condition-And Names w scope a cs) ∙ n))
      (nothing_each (names.timed_condition_offences Types w scope) cs (sym (offence.timed_condition-And Types w scope a cs) ∙ t))
      (nothing_each (conditions.timed_condition_offences fs) cs (sym (condition_form.timed_condition_offences-and fs a cs) ∙ f)))))
      (λ a c env scope b n t f. subst StagedParts (sym (world_walk.timed_condition_parts-AtStart (world d p) env a c))
      (at_stage AtStart env scope c b (sym (offence.timed_condition-AtStart Names w scope a c) ∙ n) (sym (offence.timed_condition-AtStart Types w scope a c) ∙ t) (sym (condition_form.timed_condition_offences-atstart fs a c) ∙ f)))
      (λ a c env scope b n t f. subst StagedParts (sym (world_walk.timed_condition_parts-OverAll (world d p) env a c))
      (at_stage OverAll env scope c b (sym (offence.timed_condition-OverAll Names w scope a c) ∙ n) (sym (offence.timed_condition-OverAll Types w scope a c) ∙ t) (sym (condition_form.timed_condition_offences-overall fs a c) ∙ f)))
      (λ a c env scope b n t f. subst StagedParts (sym (world_walk.timed_condition_parts-AtEnd (world d p) env a c))
      (at_stage AtEnd env scope c b (sym (offence.timed_condition-AtEnd Names w scope a c) ∙ n) (sym (offence.timed_condition-AtEnd Types w scope a c) ∙ t) (sym (condition_form.timed_condition_offences-atend fs a c) ∙ f)))
      (λ a env scope b n t f. subst StagedParts (sym (world_walk.timed_condition_parts-LeftOut (world d p) env a)) tt)

  -- ---- effects

  abbrev Changed : Env → List Change → Type 0
  Changed env cs = Each (λ c. Each (Bound d p named w knows fs) (changed_atoms (world d p) env c)) cs

  abbrev StagedChanges : Env → List (Staged Change) → Type 0
  StagedChanges env cs = Each (λ c. Each (Bound d p named w knows fs) (changed_atoms (world d p) env c.part)) cs

  deleted : (env : Env) (scope : List Typed) (c : Call) → In env scope → names.called_atom_offences Names w scope c ≡ [] → names.called_atom_offences Types w scope c ≡ [] → Changed env (map Deletes (atoms_in c))
  deleted env scope (call.Named a) b n t = ((atom-binds d p named w knows env scope b a n t, tt), tt)
  deleted env scope (call.LeftOut at) b n t = tt

  moved : (env : Env) (kind : ChangeKind) (c : Call) (e : ExprTree) → Changed env (map (λ f. Moves kind f e) (atoms_in c))
  moved env kind (call.Named a) e = (tt, tt)
  moved env kind (call.LeftOut at) e = tt

  abbrev EffectBound : EffTree → Type 0
  EffectBound e = (env : Env) (scope : List Typed) → In env scope → names.effect_offences Names w scope e ≡ [] → names.effect_offences Types w scope e ≡ [] → Changed env (effect_parts e)

  effect-bound : (e : EffTree) → EffectBound e
  effect-bound = each_effect EffectBound
      (λ a env scope b n t. subst (Changed env) (sym (world_walk.effect_parts-Empty a)) tt)
      (λ a es h env scope b n t. subst (Changed env) (sym (world_walk.effect_parts-And a es ∙ concat-map effect_parts es))
      (each_flat_map (λ c. Each (Bound d p named w knows fs) (changed_atoms (world d p) env c)) effect_parts es
      (each_part (names.effect_offences Names w scope) (names.effect_offences Types w scope) none (λ e. Changed env (effect_parts e)) es
      (each_weaker EffectBound (λ e. names.effect_offences Names w scope e ≡ [] → names.effect_offences Types w scope e ≡ [] → none e ≡ [] → Changed env (effect_parts e)) (λ e k n' t' o. k env scope b n' t') es h)
      (nothing_each (names.effect_offences Names w scope) es (sym (offence.effect-And Names w scope a es) ∙ n))
      (nothing_each (names.effect_offences Types w scope) es (sym (offence.effect-And Types w scope a es) ∙ t))
      (each_everywhere (λ e. none e ≡ []) (λ e. refl) es))))
      (λ a env scope b n t. subst (Changed env) (sym (world_walk.effect_parts-Add a))
      ((atom-binds d p named w knows env scope b a (sym (offence.effect-Add Names w scope a) ∙ n) (sym (offence.effect-Add Types w scope a) ∙ t), tt), tt))
      (λ a c env scope b n t. subst (Changed env) (sym (world_walk.effect_parts-Delete a c))
      (deleted env scope c b (sym (offence.effect-Delete Names w scope a c) ∙ n) (sym (offence.effect-Delete Types w scope a c) ∙ t)))
      (λ a kind c e env scope b n t. subst (Changed env) (sym (world_walk.effect_parts-Change a kind c e)) (moved env kind c e))
      (λ a env scope b n t. subst (Changed env) (sym (world_walk.effect_parts-LeftOut a)) tt)
    where
      none : EffTree → List Offence
      none e = []

  changed_at : (s : Stage) (env : Env) (scope : List Typed) (e : EffTree) → In env scope → names.effect_offences Names w scope e ≡ [] → names.effect_offences Types w scope e ≡ []
      → StagedChanges env (staged s (effect_parts e))
  changed_at s env scope e b n t = each_map (λ c. Each (Bound d p named w knows fs) (changed_atoms (world d p) env c.part)) (λ x. record { stage = s; part = x }) (effect_parts e) (effect-bound e env scope b n t)

  flowing : (env : Env) (trend : Trend) (c : Call) (r : RateTree) → StagedChanges env (staged AtStart (map (λ f. Flows trend f r) (atoms_in c)))
  flowing env trend (call.Named a) r = (tt, tt)
  flowing env trend (call.LeftOut at) r = tt

  abbrev TimedEffectBound : TimedEff → Type 0
  TimedEffectBound e = (env : Env) (scope : List Typed) → In env scope → names.timed_effect_offences Names w scope e ≡ [] → names.timed_effect_offences Types w scope e ≡ [] → StagedChanges env (timed_effect_parts e)

  timed_effect-bound : (e : TimedEff) → TimedEffectBound e
  timed_effect-bound = each_timed_effect TimedEffectBound
      (λ a env scope b n t. subst (StagedChanges env) (sym (world_walk.timed_effect_parts-Empty a)) tt)
      (λ a es h env scope b n t. subst (StagedChanges env) (sym (world_walk.timed_effect_parts-And a es ∙ concat-map timed_effect_parts es))
      (each_flat_map (λ c. Each (Bound d p named w knows fs) (changed_atoms (world d p) env c.part)) timed_effect_parts es
      (each_part (names.timed_effect_offences Names w scope) (names.timed_effect_offences Types w scope) none (λ e. StagedChanges env (timed_effect_parts e)) es
      (each_weaker TimedEffectBound (λ e. names.timed_effect_offences Names w scope e ≡ [] → names.timed_effect_offences Types w scope e ≡ [] → none e ≡ [] → StagedChanges env (timed_effect_parts e)) (λ e k n' t' o. k env scope b n' t') es h)
      (nothing_each (names.timed_effect_offences Names w scope) es (sym (offence.timed_effect-And Names w scope a es) ∙ n))
      (nothing_each (names.timed_effect_offences Types w scope) es (sym (offence.timed_effect-And Types w scope a es) ∙ t))
      (each_everywhere (λ e. none e ≡ []) (λ e. refl) es))))
      (λ a e env scope b n t. subst (StagedChanges env) (sym (world_walk.timed_effect_parts-AtStart a e))
      (changed_at AtStart env scope e b (sym (offence.timed_effect-AtStart Names w scope a e) ∙ n) (sym (offence.timed_effect-AtStart Types w scope a e) ∙ t)))
      (λ a e env scope b n t. subst (StagedChanges env) (sym (world_walk.timed_effect_parts-AtEnd a e))
      (changed_at AtEnd env scope e b (sym (offence.timed_effect-AtEnd Names w scope a e) ∙ n) (sym (offence.timed_effect-AtEnd Types w scope a e) ∙ t)))
      (λ a trend c r env scope b n t. subst (StagedChanges env) (sym (world_walk.timed_effect_parts-Rate a trend c r)) (flowing env trend c r))
      (λ a env scope b n t. subst (StagedChanges env) (sym (world_walk.timed_effect_parts-LeftOut a)) tt)
    where
      none : TimedEff → List Offence
      none e = []

  -- ---- bodies

  body_conditions-bound : (env : Env) (scope : List Typed) (body : ActionBody) → In env scope → files.body_offences Names w scope body ≡ [] → files.body_offences Types w scope body ≡ []
      → forms.body_offences fs body ≡ [] → StagedParts (body_conditions (world d p) env body)
  body_conditions-bound env scope (Instant None e) b n t f = tt
  body_conditions-bound env scope (Instant (Some c) e) b n t f = at_stage AtStart env scope c b
      (nothing_left (names.condition_offences Names w scope c) (option_map_or (names.effect_offences Names w scope) e []) n)
      (nothing_left (names.condition_offences Types w scope c) (option_map_or (names.effect_offences Types w scope) e []) t)
      (nothing_left (conditions.condition_offences fs c) (forms.some_offences (effects.effect_offences fs) e) f)
  body_conditions-bound env scope (Durative dur None e) b n t f = tt
  body_conditions-bound env scope (Durative dur (Some c) e) b n t f = timed-bound c env scope b
      (nothing_right (names.duration_offences Names w scope dur) (names.timed_condition_offences Names w scope c) (nothing_left (names.duration_offences Names w scope dur ++ names.timed_condition_offences Names w scope c) (option_map_or (names.timed_effect_offences Names w scope) e []) n))
      (nothing_right (names.duration_offences Types w scope dur) (names.timed_condition_offences Types w scope c) (nothing_left (names.duration_offences Types w scope dur ++ names.timed_condition_offences Types w scope c) (option_map_or (names.timed_effect_offences Types w scope) e []) t))
      (nothing_right (conditions.duration_offences fs dur) (conditions.timed_condition_offences fs c) (nothing_left (conditions.duration_offences fs dur ++ conditions.timed_condition_offences fs c) (forms.some_offences (effects.timed_effect_offences fs) e) f))

  body_changes-bound : (env : Env) (scope : List Typed) (body : ActionBody) → In env scope → files.body_offences Names w scope body ≡ [] → files.body_offences Types w scope body ≡ []
      → StagedChanges env (body_changes body)
  body_changes-bound env scope (Instant c None) b n t = tt
  body_changes-bound env scope (Instant c (Some e)) b n t = changed_at AtStart env scope e b
      (nothing_right (option_map_or (names.condition_offences Names w scope) c []) (names.effect_offences Names w scope e) n)
      (nothing_right (option_map_or (names.condition_offences Types w scope) c []) (names.effect_offences Types w scope e) t)
  body_changes-bound env scope (Durative dur c None) b n t = tt
  body_changes-bound env scope (Durative dur c (Some e)) b n t = timed_effect-bound e env scope b
      (nothing_right (names.duration_offences Names w scope dur ++ option_map_or (names.timed_condition_offences Names w scope) c []) (names.timed_effect_offences Names w scope e) n)
      (nothing_right (names.duration_offences Types w scope dur ++ option_map_or (names.timed_condition_offences Types w scope) c []) (names.timed_effect_offences Types w scope e) t)

  -- ---- actions

  pub action-bound : (a : ActionDef) → files.action_offences Names w a ≡ [] → files.action_offences Types w a ≡ [] → forms.action_offences fs a ≡ []
      → list_all (λ i. list_all (is_binding (world d p) d.predicates) (instance_atoms (world d p) i)) (instances_of (world d p) a) ≡ true
  action-bound a n t f = all_in (λ i. list_all (is_binding (world d p) d.predicates) (instance_atoms (world d p) i)) (instances_of (world d p) a)
      (each_map (λ i. list_all (is_binding (world d p) d.predicates) (instance_atoms (world d p) i) ≡ true) (λ os. record { action = a; args = os }) (choices (columns (world d p) a.parameters))
      (each_weaker (λ os. In (paired (variable_names a.parameters) os) (bind a.parameters [])) (λ os. list_all (is_binding (world d p) d.predicates) (instance_atoms (world d p) (record { action = a; args = os })) ≡ true) one (choices (columns (world d p) a.parameters))
      (map_each (λ e. In e (bind a.parameters [])) (λ os. [] ++ paired (variable_names a.parameters) os) (choices (columns (world d p) a.parameters))
      (bound-inside d p named w knows [] [] a.parameters (nothing_left (variables_offences Names w a.parameters) (files.body_offences Names w (bind a.parameters []) a.body) n) (nothing_left (typed_offences a.parameters) (forms.body_offences fs a.body) f) (binds-nothing d p named w knows)))))
    where
      one : (os : List ℕ) → In (paired (variable_names a.parameters) os) (bind a.parameters []) → list_all (is_binding (world d p) d.predicates) (instance_atoms (world d p) (record { action = a; args = os })) ≡ true
      one os b = all_in (is_binding (world d p) d.predicates) (instance_atoms (world d p) (record { action = a; args = os }))
          (each_append (Bound d p named w knows fs) (flat_map (λ x. part_atoms x.part) (conditions_of (world d p) (record { action = a; args = os })))
          (flat_map (λ c. changed_atoms (world d p) (paired (variable_names a.parameters) os) c.part) (changes a))
          (each_flat_map (Bound d p named w knows fs) (λ x. part_atoms x.part) (conditions_of (world d p) (record { action = a; args = os }))
          (body_conditions-bound (paired (variable_names a.parameters) os) (bind a.parameters []) a.body b (nothing_right (variables_offences Names w a.parameters) (files.body_offences Names w (bind a.parameters []) a.body) n) t (nothing_right (typed_offences a.parameters) (forms.body_offences fs a.body) f)))
          (each_flat_map (Bound d p named w knows fs) (λ c. changed_atoms (world d p) (paired (variable_names a.parameters) os) c.part) (changes a)
          (body_changes-bound (paired (variable_names a.parameters) os) (bind a.parameters []) a.body b (nothing_right (variables_offences Names w a.parameters) (files.body_offences Names w (bind a.parameters []) a.body) n) t)))
