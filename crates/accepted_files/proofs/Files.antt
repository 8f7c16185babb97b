-- Where no phase finds an offence in a domain and a problem, every ground atom is a binding of its predicate.
use Rattle.std.proofs.Common.{◌≡◌, Bool, true, List, [], ◌∷◌, ◌++◌, map, Option, Some, None}
use Rattle.std.specs.List.{AllByRecursion as Each, flat_map, list_all}
use Rattle.basics.proofs.Lists.{all_in, each_append, nothing_left, nothing_right, nothing_each}
use Rattle.rational.specs.Rational.{ℚ}
use Rattle.pddl_terms.specs.declared.files.ActionDef.{ActionDef}
use Rattle.pddl_terms.specs.declared.files.Domain.{Domain}
use Rattle.pddl_terms.specs.declared.files.InitEntry.{InitEntry}
use Rattle.pddl_terms.specs.declared.files.InitEntry.TheVariants as entry
use Rattle.pddl_terms.specs.declared.files.Problem.{Problem}
use Rattle.pddl_terms.specs.declared.files.TimeCost.{TimeCost}
use Rattle.pddl_terms.specs.declared.files.TimeCost.TheVariants as cost
use Rattle.pddl_terms.specs.declared.trees.Call.{Call}
use Rattle.pddl_terms.specs.declared.trees.Call.TheVariants as call
use Rattle.pddl_terms.specs.declared.trees.ConForm.{ConForm}
use Rattle.pddl_names.specs.declared.declarations.Tables.{Tables}
use Rattle.pddl_names.specs.declared.offences.Offence.{Offence}
use Rattle.pddl_names.specs.declared.offences.Phase.{Phase}
use Rattle.pddl_names.specs.declared.offences.Phase.TheVariants.{Names, Types}
use Rattle.pddl_names.specs.Calls.{in_names, doubles}
use Rattle.pddl_names.specs.Declarations.{object_word}
use Rattle.pddl_names.specs.Walks as names
use Rattle.pddl_names.specs.Files as files
use Rattle.pddl_forms.specs.declared.formulas.Around.TheVariants as around
use Rattle.pddl_forms.specs.Formulas as formulas
use Rattle.pddl_forms.specs.Forms as forms
use Rattle.pddl_forms.specs.Functions.{functions_of}
use Rattle.pddl_forms.specs.Goals as goals
use Rattle.pddl_forms.specs.TimeCosts as time_costs
use Rattle.ground_world.specs.World.{either, GroundAtom, ground_atom, ground_fluent}
use Rattle.ground_world.specs.Changes.{atoms_in}
use Rattle.ground_world.specs.FirstState.{world, given_value}
use Rattle.ground_world.specs.Leaves.{cost_of, costs}
use Rattle.grounder.specs.Accepted.{is_binding, instance_atoms}
use Rattle.grounder.specs.Instances.{instances_of}
use Rattle.grounder.specs.Task.{Timing, timing, timings, mentioned_atoms}
use Rattle.grounder.specs.Terms.{formula_atoms, goal_atoms, constraint_atoms}
use Rattle.accepted_files.specs.Clean.{IsClean, TypesAreNamed}
use Rattle.accepted_files.specs.Laws.{CleanAtomsAreBindings}
use Rattle.accepted_files.proofs.Atoms.{Knows, domain-knows, problem-knows, binds-nothing, atom-binds, fluent-binds}
use Rattle.accepted_files.proofs.Trees.{each_part, formula-bound, constraint-bound, goal-bound}
use Rattle.accepted_files.proofs.Actions.{action-bound}

module _ (d : Domain) (p : Problem) (clean : IsClean d p) (named : TypesAreNamed d) where
  abbrev Atom : GroundAtom → Type 0
  Atom a = is_binding (world d p) d.predicates a ≡ true

  -- ---- the domain

  abbrev FormsOfConstraints : Option ConForm → List Offence
  FormsOfConstraints o = forms.some_offences (formulas.constraint_offences (functions_of d)) o

  abbrev FormsOfActions : List Offence
  FormsOfActions = flat_map (forms.action_offences (functions_of d)) d.actions

  forms_before : (forms.declarations_offences d ++ FormsOfConstraints d.constraints) ++ FormsOfActions ≡ []
  unfolding forms.domain_forms_with
  forms_before = nothing_left ((forms.declarations_offences d ++ FormsOfConstraints d.constraints) ++ FormsOfActions) (forms.sections_offences d.left_out) clean.domain_forms

  domain_actions_forms : Each (λ a. forms.action_offences (functions_of d) a ≡ []) d.actions
  domain_actions_forms = nothing_each (forms.action_offences (functions_of d)) d.actions
      (nothing_right (forms.declarations_offences d ++ FormsOfConstraints d.constraints) FormsOfActions forms_before)

  domain_constraint_forms : FormsOfConstraints d.constraints ≡ []
  domain_constraint_forms = nothing_right (forms.declarations_offences d) (FormsOfConstraints d.constraints)
      (nothing_left (forms.declarations_offences d ++ FormsOfConstraints d.constraints) FormsOfActions forms_before)

  -- the constraints of the domain, then its actions
  abbrev Behind : Phase → List Offence
  Behind phase = files.constraints_offences phase (files.domain_tables d) d.constraints ++ files.all_action_offences phase (files.domain_tables d) d.actions

  abbrev Declarations : Phase → List Offence
  Declarations phase = files.all_declared_offences phase (files.domain_tables d) d.predicates ++ files.all_declared_offences phase (files.domain_tables d) d.functions

  names_behind : Behind Names ≡ []
  names_behind = nothing_right ((files.listed_offences Names (files.domain_tables d) (object_word ∷ []) d.types ++ files.listed_offences Names (files.domain_tables d) [] d.constants) ++ Declarations Names) (Behind Names) clean.domain_names

  types_behind : Behind Types ≡ []
  types_behind = nothing_right (Declarations Types) (Behind Types) clean.domain_types

  action_offences-none : (phase : Phase) → Behind phase ≡ [] → flat_map (files.action_offences phase (files.domain_tables d)) d.actions ≡ []
  action_offences-none phase e = nothing_left (flat_map (files.action_offences phase (files.domain_tables d)) d.actions) (in_names phase (doubles [] (flat_map (λ a. a.name ∷ []) d.actions)))
      (nothing_right (files.constraints_offences phase (files.domain_tables d) d.constraints) (files.all_action_offences phase (files.domain_tables d) d.actions) e)

  bound : list_all (λ a. list_all (λ i. list_all (is_binding (world d p) d.predicates) (instance_atoms (world d p) i)) (instances_of (world d p) a)) d.actions ≡ true
  bound = all_in (λ a. list_all (λ i. list_all (is_binding (world d p) d.predicates) (instance_atoms (world d p) i)) (instances_of (world d p) a)) d.actions
      (each_part (files.action_offences Names (files.domain_tables d)) (files.action_offences Types (files.domain_tables d)) (forms.action_offences (functions_of d))
      (λ a. list_all (λ i. list_all (is_binding (world d p) d.predicates) (instance_atoms (world d p) i)) (instances_of (world d p) a) ≡ true) d.actions
      (everywhere d.actions)
      (nothing_each (files.action_offences Names (files.domain_tables d)) d.actions (action_offences-none Names names_behind))
      (nothing_each (files.action_offences Types (files.domain_tables d)) d.actions (action_offences-none Types types_behind))
      domain_actions_forms)
    where
      everywhere : (actions : List ActionDef) → Each (λ a. files.action_offences Names (files.domain_tables d) a ≡ [] → files.action_offences Types (files.domain_tables d) a ≡ [] → forms.action_offences (functions_of d) a ≡ []
          → list_all (λ i. list_all (is_binding (world d p) d.predicates) (instance_atoms (world d p) i)) (instances_of (world d p) a) ≡ true) actions
      everywhere [] = tt
      everywhere (a ∷ actions) = (action-bound d p named (files.domain_tables d) (domain-knows d p) (functions_of d) a, everywhere actions)

  constrained : (w : Tables) (knows : Knows d p w) (o : Option ConForm) → files.constraints_offences Names w o ≡ [] → files.constraints_offences Types w o ≡ []
      → forms.some_offences (formulas.constraint_offences (functions_of d)) o ≡ [] → Each Atom (either [] (constraint_atoms (world d p) []) o)
  constrained w knows None n t f = tt
  constrained w knows (Some c) n t f = constraint-bound d p named w knows (functions_of d) c [] [] (binds-nothing d p named w knows) n t f

  -- ---- the problem

  abbrev FormsOfCosts : List Offence
  FormsOfCosts = flat_map (time_costs.time_cost_offences (functions_of d)) p.time_costs

  abbrev FormsOfMetric : List Offence
  FormsOfMetric = forms.some_offences (forms.metric_offences (functions_of d)) p.metric

  wishes_forms : ((goals.goal_offences (functions_of d) p.goal ++ FormsOfConstraints p.constraints) ++ FormsOfCosts) ++ FormsOfMetric ≡ []
  unfolding forms.problem_forms_with
  wishes_forms = nothing_left (forms.wishes_offences (functions_of d) p) (forms.sections_offences p.left_out)
      (nothing_right (forms.facts_offences p) (forms.wishes_offences (functions_of d) p ++ forms.sections_offences p.left_out) clean.problem_forms)

  asked_forms : (goals.goal_offences (functions_of d) p.goal ++ FormsOfConstraints p.constraints) ++ FormsOfCosts ≡ []
  asked_forms = nothing_left ((goals.goal_offences (functions_of d) p.goal ++ FormsOfConstraints p.constraints) ++ FormsOfCosts) FormsOfMetric wishes_forms

  both_forms : goals.goal_offences (functions_of d) p.goal ++ FormsOfConstraints p.constraints ≡ []
  both_forms = nothing_left (goals.goal_offences (functions_of d) p.goal ++ FormsOfConstraints p.constraints) FormsOfCosts asked_forms

  goal_forms : goals.goal_offences (functions_of d) p.goal ≡ []
  goal_forms = nothing_left (goals.goal_offences (functions_of d) p.goal) (FormsOfConstraints p.constraints) both_forms

  constraint_forms : FormsOfConstraints p.constraints ≡ []
  constraint_forms = nothing_right (goals.goal_offences (functions_of d) p.goal) (FormsOfConstraints p.constraints) both_forms

  pub cost_forms : Each (λ c. time_costs.time_cost_offences (functions_of d) c ≡ []) p.time_costs
  cost_forms = nothing_each (time_costs.time_cost_offences (functions_of d)) p.time_costs (nothing_right (goals.goal_offences (functions_of d) p.goal ++ FormsOfConstraints p.constraints) FormsOfCosts asked_forms)

  -- the goal and the constraints, then the time costs and the metric
  abbrev Wishes : Phase → List Offence
  Wishes phase = names.goal_offences phase (files.problem_tables d p) [] p.goal ++ files.constraints_offences phase (files.problem_tables d p) p.constraints

  abbrev Costs : Phase → List Offence
  Costs phase = files.all_cost_offences phase (files.problem_tables d p) p.time_costs ++ files.metric_offences phase (files.problem_tables d p) p.metric

  abbrev Objects : List Offence
  Objects = files.domain_name_offences Names d.name p.domain ++ files.objects_offences Names (files.problem_tables d p) d.constants p.objects

  names_told : Each (λ e. files.entry_offences Names (files.problem_tables d p) e ≡ []) p.init
  names_told = nothing_each (files.entry_offences Names (files.problem_tables d p)) p.init (nothing_left (flat_map (files.entry_offences Names (files.problem_tables d p)) p.init) (doubles [] (flat_map files.valued_fluent p.init))
      (nothing_right Objects (files.init_offences Names (files.problem_tables d p) p.init) (nothing_left (Objects ++ files.init_offences Names (files.problem_tables d p) p.init) (Wishes Names)
      (nothing_left ((Objects ++ files.init_offences Names (files.problem_tables d p) p.init) ++ Wishes Names) (Costs Names) clean.problem_names))))

  types_told : Each (λ e. files.entry_offences Types (files.problem_tables d p) e ≡ []) p.init
  types_told = nothing_each (files.entry_offences Types (files.problem_tables d p)) p.init (nothing_left (flat_map (files.entry_offences Types (files.problem_tables d p)) p.init) []
      (nothing_left (files.init_offences Types (files.problem_tables d p) p.init) (Wishes Types) (nothing_left (files.init_offences Types (files.problem_tables d p) p.init ++ Wishes Types) (Costs Types) clean.problem_types)))

  -- nothing is wrong with what is asked of plans
  record Asked (phase : Phase) : Type 0 where
    wishes : Wishes phase ≡ []
    costs : Costs phase ≡ []

  names_asked : Asked Names
  names_asked = record {
    wishes = nothing_right (Objects ++ files.init_offences Names (files.problem_tables d p) p.init) (Wishes Names) (nothing_left ((Objects ++ files.init_offences Names (files.problem_tables d p) p.init) ++ Wishes Names) (Costs Names) clean.problem_names);
    costs = nothing_right ((Objects ++ files.init_offences Names (files.problem_tables d p) p.init) ++ Wishes Names) (Costs Names) clean.problem_names;
  }

  types_asked : Asked Types
  types_asked = record {
    wishes = nothing_right (files.init_offences Types (files.problem_tables d p) p.init) (Wishes Types) (nothing_left (files.init_offences Types (files.problem_tables d p) p.init ++ Wishes Types) (Costs Types) clean.problem_types);
    costs = nothing_right (files.init_offences Types (files.problem_tables d p) p.init ++ Wishes Types) (Costs Types) clean.problem_types;
  }

  goal_offences-none : (phase : Phase) → Asked phase → names.goal_offences phase (files.problem_tables d p) [] p.goal ≡ []
  goal_offences-none phase e = nothing_left (names.goal_offences phase (files.problem_tables d p) [] p.goal) (files.constraints_offences phase (files.problem_tables d p) p.constraints) e.wishes

  constraint_offences-none : (phase : Phase) → Asked phase → files.constraints_offences phase (files.problem_tables d p) p.constraints ≡ []
  constraint_offences-none phase e = nothing_right (names.goal_offences phase (files.problem_tables d p) [] p.goal) (files.constraints_offences phase (files.problem_tables d p) p.constraints) e.wishes

  cost_offences-none : (phase : Phase) → Asked phase → flat_map (files.cost_offences phase (files.problem_tables d p)) p.time_costs ≡ []
  cost_offences-none phase e = nothing_left (flat_map (files.cost_offences phase (files.problem_tables d p)) p.time_costs) (in_names phase (doubles [] (files.cost_names p.time_costs)))
      (nothing_left (files.all_cost_offences phase (files.problem_tables d p) p.time_costs) (files.metric_offences phase (files.problem_tables d p) p.metric) e.costs)

  -- ---- the metric

  pub metric_forms : FormsOfMetric ≡ []
  metric_forms = nothing_right ((goals.goal_offences (functions_of d) p.goal ++ FormsOfConstraints p.constraints) ++ FormsOfCosts) FormsOfMetric wishes_forms

  metric_offences-none : (phase : Phase) → Asked phase → files.metric_offences phase (files.problem_tables d p) p.metric ≡ []
  metric_offences-none phase e = nothing_right (files.all_cost_offences phase (files.problem_tables d p) p.time_costs) (files.metric_offences phase (files.problem_tables d p) p.metric) e.costs

  pub metric_names : files.metric_offences Names (files.problem_tables d p) p.metric ≡ []
  metric_names = metric_offences-none Names names_asked

  pub metric_types : files.metric_offences Types (files.problem_tables d p) p.metric ≡ []
  metric_types = metric_offences-none Types types_asked

  -- ---- what is mentioned

  goal_mentions : Each Atom (goal_atoms (world d p) [] p.goal)
  goal_mentions = goal-bound d p named (files.problem_tables d p) (problem-knows d p) (functions_of d) p.goal [] [] (binds-nothing d p named (files.problem_tables d p) (problem-knows d p)) (goal_offences-none Names names_asked) (goal_offences-none Types types_asked) goal_forms

  domain_mentions : Each Atom (either [] (constraint_atoms (world d p) []) d.constraints)
  domain_mentions = constrained (files.domain_tables d) (domain-knows d p) d.constraints
      (nothing_left (files.constraints_offences Names (files.domain_tables d) d.constraints) (files.all_action_offences Names (files.domain_tables d) d.actions) names_behind)
      (nothing_left (files.constraints_offences Types (files.domain_tables d) d.constraints) (files.all_action_offences Types (files.domain_tables d) d.actions) types_behind) domain_constraint_forms

  problem_mentions : Each Atom (either [] (constraint_atoms (world d p) []) p.constraints)
  problem_mentions = constrained (files.problem_tables d p) (problem-knows d p) p.constraints (constraint_offences-none Names names_asked) (constraint_offences-none Types types_asked) constraint_forms

  cost_mentions : (cs : List TimeCost) → Each (λ c. files.cost_offences Names (files.problem_tables d p) c ≡ []) cs → Each (λ c. files.cost_offences Types (files.problem_tables d p) c ≡ []) cs → Each (λ c. time_costs.time_cost_offences (functions_of d) c ≡ []) cs
      → Each Atom (flat_map (λ c. formula_atoms (world d p) [] c.formula) (flat_map cost_of cs))
  cost_mentions [] n t f = tt
  cost_mentions (cost.LeftOut at ∷ cs) n t f = cost_mentions cs n.1 t.1 f.1
  cost_mentions (cost.Named at m x c ∷ cs) n t f = each_append Atom (formula_atoms (world d p) [] x) (flat_map (λ c. formula_atoms (world d p) [] c.formula) (flat_map cost_of cs))
      (formula-bound d p named (files.problem_tables d p) (problem-knows d p) (functions_of d) x [] [] around.Formula (binds-nothing d p named (files.problem_tables d p) (problem-knows d p)) n.0 t.0 (nothing_left (formulas.formula_offences (functions_of d) x) (time_costs.curve_offences at c) f.0))
      (cost_mentions cs n.1 t.1 f.1)

  abbrev OfDomain : List GroundAtom
  OfDomain = either [] (constraint_atoms (world d p) []) d.constraints

  abbrev OfProblem : List GroundAtom
  OfProblem = either [] (constraint_atoms (world d p) []) p.constraints

  abbrev OfCosts : List GroundAtom
  OfCosts = flat_map (λ c. formula_atoms (world d p) [] c.formula) (costs p)

  mentioned : list_all (is_binding (world d p) d.predicates) (mentioned_atoms (world d p) d p) ≡ true
  mentioned = all_in (is_binding (world d p) d.predicates) (mentioned_atoms (world d p) d p)
      (each_append Atom ((goal_atoms (world d p) [] p.goal ++ OfDomain) ++ OfProblem) OfCosts
      (each_append Atom (goal_atoms (world d p) [] p.goal ++ OfDomain) OfProblem (each_append Atom (goal_atoms (world d p) [] p.goal) OfDomain goal_mentions domain_mentions) problem_mentions)
      (cost_mentions p.time_costs (nothing_each (files.cost_offences Names (files.problem_tables d p)) p.time_costs (cost_offences-none Names names_asked)) (nothing_each (files.cost_offences Types (files.problem_tables d p)) p.time_costs (cost_offences-none Types types_asked)) cost_forms))

  -- ---- `:init`

  value_bound : (c : Call) (q : ℚ) → names.called_fluent_offences Names (files.problem_tables d p) [] c ≡ [] → names.called_fluent_offences Types (files.problem_tables d p) [] c ≡ []
      → Each (λ e. is_binding (world d p) d.functions e.0 ≡ true) (map {B = GroundAtom × ℚ} (λ f. (ground_fluent (world d p) [] f, q)) (atoms_in c))
  value_bound (call.Named a) q n t = (fluent-binds d p named (files.problem_tables d p) (problem-knows d p) [] [] (binds-nothing d p named (files.problem_tables d p) (problem-knows d p)) a n t, tt)
  value_bound (call.LeftOut at) q n t = tt

  values_bound : (es : List InitEntry) → Each (λ e. files.entry_offences Names (files.problem_tables d p) e ≡ []) es → Each (λ e. files.entry_offences Types (files.problem_tables d p) e ≡ []) es
      → Each (λ e. is_binding (world d p) d.functions e.0 ≡ true) (flat_map (given_value (world d p)) es)
  values_bound [] n t = tt
  values_bound (entry.Holds a ∷ es) n t = values_bound es n.1 t.1
  values_bound (entry.Not at c ∷ es) n t = values_bound es n.1 t.1
  values_bound (entry.Value at c q ∷ es) n t = each_append (λ e. is_binding (world d p) d.functions e.0 ≡ true) (map {B = GroundAtom × ℚ} (λ f. (ground_fluent (world d p) [] f, q)) (atoms_in c)) (flat_map (given_value (world d p)) es)
      (value_bound c q n.0 t.0) (values_bound es n.1 t.1)
  values_bound (entry.Timed l ∷ es) n t = values_bound es n.1 t.1
  values_bound (entry.LeftOut at ∷ es) n t = values_bound es n.1 t.1

  timed_bound : (c : Call) (moment : ℚ) (holds : Bool) → names.called_atom_offences Names (files.problem_tables d p) [] c ≡ [] → names.called_atom_offences Types (files.problem_tables d p) [] c ≡ []
      → Each (λ l. Atom l.atom) (map {B = Timing} (λ a. record { moment = moment; holds = holds; atom = ground_atom (world d p) [] a }) (atoms_in c))
  timed_bound (call.Named a) moment holds n t = (atom-binds d p named (files.problem_tables d p) (problem-knows d p) [] [] (binds-nothing d p named (files.problem_tables d p) (problem-knows d p)) a n t, tt)
  timed_bound (call.LeftOut at) moment holds n t = tt

  timings_bound : (es : List InitEntry) → Each (λ e. files.entry_offences Names (files.problem_tables d p) e ≡ []) es → Each (λ e. files.entry_offences Types (files.problem_tables d p) e ≡ []) es → Each (λ l. Atom l.atom) (flat_map (timing (world d p)) es)
  timings_bound [] n t = tt
  timings_bound (entry.Holds a ∷ es) n t = timings_bound es n.1 t.1
  timings_bound (entry.Not at c ∷ es) n t = timings_bound es n.1 t.1
  timings_bound (entry.Value at c q ∷ es) n t = timings_bound es n.1 t.1
  timings_bound (entry.Timed l ∷ es) n t = each_append (λ x. Atom x.atom) (timing (world d p) (entry.Timed l)) (flat_map (timing (world d p)) es)
      (timed_bound l.atom l.moment l.holds n.0 t.0) (timings_bound es n.1 t.1)
  timings_bound (entry.LeftOut at ∷ es) n t = timings_bound es n.1 t.1

  timed : list_all (λ l. is_binding (world d p) d.predicates l.atom) (timings (world d p) p.init) ≡ true
  unfolding timings
  timed = all_in (λ l. is_binding (world d p) d.predicates l.atom) (flat_map (timing (world d p)) p.init) (timings_bound p.init names_told types_told)

pub clean_atoms-bound : CleanAtomsAreBindings
clean_atoms-bound d p clean named = record {
  bound = bound d p clean named;
  mentioned = mentioned d p clean named;
  valued = all_in (λ e. is_binding (world d p) d.functions e.0) (flat_map (given_value (world d p)) p.init) (values_bound d p clean named p.init (names_told d p clean named) (types_told d p clean named));
  timed = timed d p clean named;
}
