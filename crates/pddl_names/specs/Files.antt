-- Believed: what is wrong with the names, or with the types of terms, of a domain, and of a problem of a domain.
use Rattle.std.specs.Prelude.{List, [], ◌∷◌, ◌++◌, map, Option, Some, None}
use Rattle.std.specs.List.{flat_map}
use Rattle.std.specs.Option.{option_map_or}
use Rattle.std.specs.Str.{bytes_eq}
use lib.Chars.{codes}
use Rattle.pddl_terms.specs.declared.trees.Name.{Name}
use Rattle.pddl_terms.specs.declared.trees.Atom.{Atom}
use Rattle.pddl_terms.specs.declared.trees.Term.{Term}
use Rattle.pddl_terms.specs.declared.trees.Term.TheVariants as term
use Rattle.pddl_terms.specs.declared.trees.Group.{Group}
use Rattle.pddl_terms.specs.declared.trees.Call.{Call}
use Rattle.pddl_terms.specs.declared.trees.Call.TheVariants as call
use Rattle.pddl_terms.specs.declared.trees.ConForm.{ConForm, fold-ConForm}
use Rattle.pddl_terms.specs.declared.trees.ConForm.TheOpen.{ConForm-F}
use Rattle.pddl_terms.specs.declared.trees.GoalTree.{GoalTree, fold-GoalTree}
use Rattle.pddl_terms.specs.declared.trees.GoalTree.TheOpen.{GoalTree-F}
use Rattle.pddl_terms.specs.declared.files.Declared.{Declared}
use Rattle.pddl_terms.specs.declared.files.Declared.TheVariants as declared
use Rattle.pddl_terms.specs.declared.files.ActionDef.{ActionDef}
use Rattle.pddl_terms.specs.declared.files.ActionBody.{ActionBody}
use Rattle.pddl_terms.specs.declared.files.ActionBody.TheVariants as body
use Rattle.pddl_terms.specs.declared.files.InitEntry.{InitEntry}
use Rattle.pddl_terms.specs.declared.files.InitEntry.TheVariants as entry
use Rattle.pddl_terms.specs.declared.files.TimeCost.{TimeCost}
use Rattle.pddl_terms.specs.declared.files.TimeCost.TheVariants as cost
use Rattle.pddl_terms.specs.declared.files.Metric.{Metric}
use Rattle.pddl_terms.specs.declared.files.Domain.{Domain}
use Rattle.pddl_terms.specs.declared.files.Problem.{Problem}
use Rattle.pddl_names.specs.declared.offences.Offence.{Offence}
use Rattle.pddl_names.specs.declared.offences.Phase.{Phase}
use Rattle.pddl_names.specs.declared.offences.Phase.TheVariants as phase
use Rattle.pddl_names.specs.declared.declarations.Tables.{Tables}
use Rattle.pddl_names.specs.Declarations.{Text, Typed, object_word, typed, declared_types, declared_predicates, declared_functions, with_new, with_firsts}
use Rattle.pddl_names.specs.Calls.{undeclared, in_names, doubles, names_of, types_offences, variables_offences, bind, atom_offences}
use Rattle.pddl_names.specs.Walks.{expression_offences, duration_offences, condition_offences, formula_offences, constraint_offences, called_atom_offences, called_fluent_offences, effect_offences, timed_effect_offences, timed_condition_offences, goal_offences}

-- ---- what is declared

-- an unnamed preference is called `anonymous`
abbrev pub preference_name : Option Name → Text
preference_name None = codes "anonymous"
preference_name (Some n) = n.bytes

abbrev pub constraint_preference_layer : ConForm-F (List Text) → List Text
constraint_preference_layer (ConForm-F.And at parts) = flat_map (λ part. part) parts
constraint_preference_layer (ConForm-F.Forall at groups body) = body
constraint_preference_layer (ConForm-F.Hard t) = []
constraint_preference_layer (ConForm-F.Preference at n t) = preference_name n ∷ []

-- the names of the preferences among constraints
unfoldable pub constraint_preferences : ConForm → List Text
constraint_preferences tree = fold-ConForm (List Text) constraint_preference_layer tree

abbrev pub goal_preference_layer : GoalTree-F (List Text) → List Text
goal_preference_layer (GoalTree-F.Condition c) = []
goal_preference_layer (GoalTree-F.And at parts) = flat_map (λ part. part) parts
goal_preference_layer (GoalTree-F.Forall at groups body) = body
goal_preference_layer (GoalTree-F.Preference at n soft) = preference_name n ∷ []

-- the names of the preferences in a goal
unfoldable pub goal_preferences : GoalTree → List Text
goal_preferences tree = fold-GoalTree (List Text) goal_preference_layer tree

-- the preferences that a metric may name: those of the domain's constraints, of the goal and of the problem's constraints
abbrev pub preferences : Domain → Problem → List Text
preferences d p = option_map_or constraint_preferences d.constraints [] ++ goal_preferences p.goal ++ option_map_or constraint_preferences p.constraints []

-- the names of predicates or functions
abbrev pub declared_name : Declared → List Name
declared_name (declared.Named at n parameters) = n ∷ []
declared_name (declared.LeftOut at) = []

abbrev pub declared_names : List Declared → List Name
declared_names ds = flat_map declared_name ds

abbrev pub cost_name : TimeCost → List Name
cost_name (cost.Named at n formula curve) = n ∷ []
cost_name (cost.LeftOut at) = []

abbrev pub cost_names : List TimeCost → List Name
cost_names costs = flat_map cost_name costs

abbrev pub texts_of : List Name → List Text
texts_of names = map (λ n. n.bytes) names

abbrev pub no_tables : Tables
no_tables = record { types = []; objects = []; predicates = []; functions = []; function_names = []; preferences = []; time_costs = [] }

-- with what a domain declares; where a name is declared twice the first counts
abbrev pub with_domain : Tables → Domain → Tables
with_domain w d = record {
  types = with_firsts w.types (declared_types d);
  objects = with_firsts w.objects (typed d.constants);
  predicates = with_firsts w.predicates (declared_predicates d);
  functions = with_firsts w.functions (declared_functions d);
  function_names = with_new w.function_names (texts_of (declared_names d.functions));
  preferences = w.preferences;
  time_costs = w.time_costs;
}

-- with what a problem declares
abbrev pub with_problem : Tables → Domain → Problem → Tables
with_problem w d p = record {
  types = w.types;
  objects = with_firsts w.objects (typed p.objects);
  predicates = w.predicates;
  functions = w.functions;
  function_names = w.function_names;
  preferences = with_new w.preferences (preferences d p);
  time_costs = with_new w.time_costs (texts_of (cost_names p.time_costs));
}

abbrev pub domain_tables : Domain → Tables
domain_tables d = with_domain no_tables d

-- the objects of a problem are the constants of its domain, then its own
abbrev pub problem_tables : Domain → Problem → Tables
problem_tables d p = with_problem (domain_tables d) d p

-- ---- a domain

-- a typed list of types or objects: the types in it, and the names that stand before, among these or in the list
abbrev pub listed_offences : Phase → Tables → List Text → List Group → List Offence
listed_offences p w before groups = in_names p (types_offences w groups ++ doubles before (names_of groups))

-- the parameters of a predicate or function
abbrev pub declared_offences : Phase → Tables → Declared → List Offence
declared_offences p w (declared.Named at n parameters) = variables_offences p w parameters
declared_offences p w (declared.LeftOut at) = []

-- predicates or functions: their parameters, and names declared twice
abbrev pub all_declared_offences : Phase → Tables → List Declared → List Offence
all_declared_offences p w ds = flat_map (declared_offences p w) ds ++ in_names p (doubles [] (declared_names ds))

abbrev pub body_offences : Phase → Tables → List Typed → ActionBody → List Offence
body_offences p w scope (body.Instant condition effect) =
    option_map_or (condition_offences p w scope) condition [] ++ option_map_or (effect_offences p w scope) effect []
body_offences p w scope (body.Durative duration condition effect) =
    duration_offences p w scope duration ++ option_map_or (timed_condition_offences p w scope) condition [] ++ option_map_or (timed_effect_offences p w scope) effect []

abbrev pub action_offences : Phase → Tables → ActionDef → List Offence
action_offences p w a = variables_offences p w a.parameters ++ body_offences p w (bind a.parameters []) a.body

-- actions, and names of actions declared twice
abbrev pub all_action_offences : Phase → Tables → List ActionDef → List Offence
all_action_offences p w actions = flat_map (action_offences p w) actions ++ in_names p (doubles [] (flat_map (λ a. a.name ∷ []) actions))

abbrev pub constraints_offences : Phase → Tables → Option ConForm → List Offence
constraints_offences p w constraints = option_map_or (constraint_offences p w []) constraints []

-- `object` is declared before all types
abbrev pub domain_offences : Phase → Tables → Domain → List Offence
domain_offences p w d =
    (listed_offences p w (object_word ∷ []) d.types ++ listed_offences p w [] d.constants)
    ++ (all_declared_offences p w d.predicates ++ all_declared_offences p w d.functions)
    ++ (constraints_offences p w d.constraints ++ all_action_offences p w d.actions)

-- the names of a domain that aren't declared, or are declared twice
abbrev pub name_offences : Domain → List Offence
name_offences d = domain_offences phase.Names (domain_tables d) d

-- the terms of a domain that don't fit, and wrong numbers of terms
abbrev pub type_offences_of : Domain → List Offence
type_offences_of d = domain_offences phase.Types (domain_tables d) d

-- ---- a problem

abbrev pub entry_offences : Phase → Tables → InitEntry → List Offence
entry_offences p w (entry.Holds a) = atom_offences p w [] a
entry_offences p w (entry.Not at a) = called_atom_offences p w [] a
entry_offences p w (entry.Value at f value) = called_fluent_offences p w [] f
entry_offences p w (entry.Timed t) = called_atom_offences p w [] t.atom
entry_offences p w (entry.LeftOut at) = []

-- a fluent as it is written: its name, and its terms with a blank before each
abbrev pub term_text : Term → Text
term_text (term.Object n) = n.bytes
term_text (term.Variable n) = n.bytes

abbrev pub fluent_text : Atom → Text
fluent_text a = a.name.bytes ++ flat_map (λ t. 32 ∷ term_text t) a.terms

-- the text of a fluent with the place of its list
abbrev pub written : Atom → Name
written a = record { at = a.at; bytes = fluent_text a }

abbrev pub written_call : Call → List Name
written_call (call.Named a) = written a ∷ []
written_call (call.LeftOut at) = []

-- the fluent to which an entry gives a value
abbrev pub valued_fluent : InitEntry → List Name
valued_fluent (entry.Value at f value) = written_call f
valued_fluent (entry.Holds a) = []
valued_fluent (entry.Not at a) = []
valued_fluent (entry.Timed t) = []
valued_fluent (entry.LeftOut at) = []

-- the entries of `:init`, and fluents with a second value
abbrev pub init_offences : Phase → Tables → List InitEntry → List Offence
init_offences p w entries = flat_map (entry_offences p w) entries ++ in_names p (doubles [] (flat_map valued_fluent entries))

abbrev pub cost_offences : Phase → Tables → TimeCost → List Offence
cost_offences p w (cost.Named at n formula curve) = formula_offences p w [] formula
cost_offences p w (cost.LeftOut at) = []

-- time costs, and names of time costs given twice
abbrev pub all_cost_offences : Phase → Tables → List TimeCost → List Offence
all_cost_offences p w costs = flat_map (cost_offences p w) costs ++ in_names p (doubles [] (cost_names costs))

abbrev pub metric_offences : Phase → Tables → Option Metric → List Offence
metric_offences p w metric = option_map_or (λ m. expression_offences p w [] m.expression) metric []

-- the name of another domain than this
abbrev pub domain_name_offences : Phase → Name → Name → List Offence
domain_name_offences p domain n = in_names p (undeclared (bytes_eq n.bytes domain.bytes) n)

-- the constants of the domain stand before all objects
abbrev pub objects_offences : Phase → Tables → List Group → List Group → List Offence
objects_offences p w constants objects = listed_offences p w (with_new [] (texts_of (names_of constants))) objects

abbrev pub problem_offences : Phase → Tables → Domain → Problem → List Offence
problem_offences p w d problem =
    ((domain_name_offences p d.name problem.domain ++ objects_offences p w d.constants problem.objects) ++ init_offences p w problem.init)
    ++ (goal_offences p w [] problem.goal ++ constraints_offences p w problem.constraints)
    ++ (all_cost_offences p w problem.time_costs ++ metric_offences p w problem.metric)

abbrev pub problem_name_offences : Domain → Problem → List Offence
problem_name_offences d p = problem_offences phase.Names (problem_tables d p) d p

abbrev pub problem_type_offences : Domain → Problem → List Offence
problem_type_offences d p = problem_offences phase.Types (problem_tables d p) d p
