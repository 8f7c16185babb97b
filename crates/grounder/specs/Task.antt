-- Believed: the ground task of a domain and a problem.
use Rattle.std.specs.Prelude.{ℕ, ◌+◌, Bool, true, false, ◌&&◌, not, nat_lt, if◌then◌else◌, List, [], ◌∷◌, ◌++◌, map, length, slice_index_or, Option, Some, None, pos}
use Rattle.std.specs.List.{flat_map, filter, enumerate_from}
use Rattle.rational.specs.Rational.{ℚ, zeroℚ, whole, neg_ℚ}
use Rattle.exact_lin.specs.Forms.{LinearForm, coefficient, constant_form}
use Rattle.task_types.specs.Tests.{◌<?◌, ◌=?◌}
use Rattle.task_types.specs.declared.conditions.Amount.{Amount}
use Rattle.task_types.specs.declared.conditions.Condition.{Condition}
use Rattle.task_types.specs.declared.conditions.Effect.{Effect}
use Rattle.task_types.specs.declared.conditions.Literal.{Literal}
use Rattle.task_types.specs.declared.actions.Action.{Action}
use Rattle.task_types.specs.declared.actions.Bound.{Bound}
use Rattle.task_types.specs.declared.actions.Snap.{Snap}
use Rattle.task_types.specs.declared.actions.SnapKind.{SnapKind}
use Rattle.task_types.specs.declared.actions.SnapKind.TheVariants as snap
use Rattle.task_types.specs.declared.constraints.Trail.{Trail}
use Rattle.task_types.specs.declared.costs.Metric.{Metric}
use Rattle.task_types.specs.declared.costs.Piece.{Piece}
use Rattle.task_types.specs.declared.costs.Soft.{Soft}
use Rattle.task_types.specs.declared.costs.Soft.TheVariants as soft
use Rattle.task_types.specs.declared.formulas.FactTree.{FactTree}
use Rattle.task_types.specs.declared.formulas.FactTree.TheVariants as fact
use Rattle.task_types.specs.declared.parts.TaskParts.{TaskParts}
use Rattle.pddl_terms.specs.declared.trees.Comparison.{Comparison}
use Rattle.pddl_terms.specs.declared.trees.Comparison.TheVariants.{Equal, AtMost, AtLeast, Below, Above}
use Rattle.pddl_terms.specs.declared.trees.ChangeKind.TheVariants.{Increase, Decrease, Assign}
use Rattle.pddl_terms.specs.declared.trees.Trend.{Trend}
use Rattle.pddl_terms.specs.declared.trees.Trend.TheVariants.{Rises, Falls}
use Rattle.pddl_terms.specs.declared.trees.RateTree.{RateTree}
use Rattle.pddl_terms.specs.declared.trees.RateTree.TheVariants as rate
use Rattle.pddl_terms.specs.declared.trees.SoftTree.{SoftTree}
use Rattle.pddl_terms.specs.declared.trees.GoalTree.{GoalTree}
use Rattle.pddl_terms.specs.declared.trees.Trajectory.{Trajectory}
use Rattle.pddl_terms.specs.declared.files.ActionBody.{ActionBody}
use Rattle.pddl_terms.specs.declared.files.ActionBody.TheVariants.{Instant, Durative}
use Rattle.pddl_terms.specs.declared.files.InitEntry.{InitEntry}
use Rattle.pddl_terms.specs.declared.files.InitEntry.TheVariants as init
use Rattle.pddl_terms.specs.declared.files.PieceDef.{PieceDef}
use Rattle.pddl_terms.specs.declared.files.PieceDef.TheVariants as piece
use Rattle.pddl_terms.specs.declared.files.CostCurve.{CostCurve}
use Rattle.pddl_terms.specs.declared.files.CostCurve.TheVariants as curve
use Rattle.pddl_terms.specs.declared.files.Domain.{Domain}
use Rattle.pddl_terms.specs.declared.files.Problem.{Problem}
use Rattle.pddl_names.specs.Declarations.{Text, with_new}
use Rattle.ground_world.specs.World.{World, Env, either, columns, GroundAtom, ground_atom, ground_fluent, number_in, symbol, arguments}
use Rattle.ground_world.specs.declared.changes.Stage.{Stage}
use Rattle.ground_world.specs.declared.changes.Stage.TheVariants.{AtStart, OverAll, AtEnd}
use Rattle.ground_world.specs.Changes.{parts_at, Change, Adds, Deletes, Moves, Flows, atoms_in, changes}
use Rattle.ground_world.specs.FirstState.{all_atoms, world}
use Rattle.ground_world.specs.Expressions.{Unknowns, own_unknown, preference_unknown, cost_unknown, reckoned, minus_one, form_or_zero, negative}
use Rattle.ground_world.specs.Conditions.{Part, Lit, Same, Compares, Test, body_bounds, test_forms}
use Rattle.ground_world.specs.Leaves.{Leaf, Named, Cost, goal_preferences, constraints, costs, leaf_envs, unknowns, minimised}
use Rattle.grounder.specs.Instances.{Instance, env_of, conditions_of, no_unknowns, kept}
use Rattle.grounder.specs.Terms.{formula, formula_atoms, preference_parts, formulas_in, comparisons_in, goal_parts, goal_atoms, constraint_atoms, watched}

-- ---- facts

-- what the goal, the domain's constraints, the problem's constraints and the time costs mention, in this order
abbrev pub mentioned_atoms : World → Domain → Problem → List GroundAtom
mentioned_atoms w d p = goal_atoms w [] p.goal
    ++ either [] (constraint_atoms w []) d.constraints
    ++ either [] (constraint_atoms w []) p.constraints
    ++ flat_map (λ c. formula_atoms w [] c.formula) (costs p)

-- The facts are the bindings of the predicates that aren't static, then each other atom that is mentioned.
unfoldable pub fact_atoms : World → Domain → Problem → List GroundAtom
fact_atoms w d p = with_new (all_atoms w (λ x. not (w.is_static x)) d.predicates) (mentioned_atoms w d p)

-- All that the parts of the task are numbered and weighed by.
pub record Ground : Type 0 where
  pub world : World
  pub facts : List GroundAtom
  pub unknowns : Unknowns
  pub cost : LinearForm

abbrev pub grounding : Domain → Problem → Ground
grounding d p = record {
  world = world d p;
  facts = fact_atoms (world d p) d p;
  unknowns = unknowns d p;
  cost = minimised (world d p) d p;
}

abbrev pub fact_number : Ground → GroundAtom → ℕ
fact_number g a = number_in g.facts a

abbrev pub fluent_number : Ground → GroundAtom → ℕ
fluent_number g f = number_in g.world.fluents f

-- ---- conditions and effects

abbrev pub literal_of : List GroundAtom → Part → List Literal
literal_of facts (Lit a holds) = record { fact = number_in facts a; holds = holds } ∷ []
literal_of facts (Same holds) = []
literal_of facts (Compares t) = []

-- an action's static literals are left out
abbrev pub dynamic_literal : World → List GroundAtom → Part → List Literal
dynamic_literal w facts (Lit a holds) = if w.is_static (symbol a) then [] else literal_of facts (Lit a holds)
dynamic_literal w facts (Same holds) = []
dynamic_literal w facts (Compares t) = []

-- a form over the fluents alone, without the unknowns of an action or a metric
abbrev pub over_fluents : Ground → LinearForm → LinearForm
over_fluents g f = record { constant = f.constant; terms = filter (λ t. nat_lt t.0 (own_unknown g.world)) f.terms }

-- the forms of a comparison, each to be at least 0
abbrev pub compared : Ground → Test → List LinearForm
compared g t = map (over_fluents g) (test_forms g.world no_unknowns t)

abbrev pub forms_in : Ground → Part → List LinearForm
forms_in g (Lit a holds) = []
forms_in g (Same holds) = []
forms_in g (Compares t) = compared g t

-- in the goal an equality of terms that fails is the form of constant -1
abbrev pub goal_forms_in : Ground → Part → List LinearForm
goal_forms_in g (Lit a holds) = []
goal_forms_in g (Same holds) = if holds then [] else (constant_form minus_one ∷ [])
goal_forms_in g (Compares t) = compared g t

abbrev pub action_condition : Ground → List Part → Condition
action_condition g parts = record {
  literals = flat_map (dynamic_literal g.world g.facts) parts;
  comparisons = flat_map (forms_in g) parts;
}

abbrev pub goal_condition : Ground → List Part → Condition
goal_condition g parts = record {
  literals = flat_map (literal_of g.facts) parts;
  comparisons = flat_map (goal_forms_in g) parts;
}

-- An amount over the fluents, and the factor of the duration, which only a durative action has.
abbrev pub amount : Ground → Bool → LinearForm → Amount
amount g durative f = record {
  form = over_fluents g f;
  duration = if durative then coefficient f.terms (own_unknown g.world) else zeroℚ;
}

abbrev pub added_facts : Ground → Env → Change → List ℕ
added_facts g env (Adds a) = fact_number g (ground_atom g.world env a) ∷ []
added_facts g env _ = []

abbrev pub deleted_facts : Ground → Env → Change → List ℕ
deleted_facts g env (Deletes a) = fact_number g (ground_atom g.world env a) ∷ []
deleted_facts g env _ = []

abbrev pub assigned_amounts : Ground → Bool → Env → Change → List (ℕ × Amount)
assigned_amounts g durative env (Moves Assign f e) =
    (fluent_number g (ground_fluent g.world env f), amount g durative (form_or_zero (reckoned g.world no_unknowns env e))) ∷ []
assigned_amounts g durative env _ = []

-- A decrease is the increase by the negative.
abbrev pub increased_amounts : Ground → Bool → Env → Change → List (ℕ × Amount)
increased_amounts g durative env (Moves Increase f e) =
    (fluent_number g (ground_fluent g.world env f), amount g durative (form_or_zero (reckoned g.world no_unknowns env e))) ∷ []
increased_amounts g durative env (Moves Decrease f e) =
    (fluent_number g (ground_fluent g.world env f), amount g durative (negative (form_or_zero (reckoned g.world no_unknowns env e)))) ∷ []
increased_amounts g durative env _ = []

abbrev pub effect : Ground → Bool → Env → List Change → Effect
effect g durative env cs = record {
  adds = flat_map (added_facts g env) cs;
  deletes = flat_map (deleted_facts g env) cs;
  assigns = flat_map (assigned_amounts g durative env) cs;
  increases = flat_map (increased_amounts g durative env) cs;
}

abbrev pub rate_value : Ground → Env → RateTree → ℚ
rate_value g env (rate.One at) = whole (pos 1)
rate_value g env (rate.Times at e) = (form_or_zero (reckoned g.world no_unknowns env e)).constant
rate_value g env (rate.LeftOut at) = zeroℚ

abbrev pub signed : Trend → ℚ → ℚ
signed Rises q = q
signed Falls q = neg_ℚ q

abbrev pub fluent_rates : Ground → Env → Change → List (ℕ × ℚ)
fluent_rates g env (Flows trend f r) =
    (fluent_number g (ground_fluent g.world env f), signed trend (rate_value g env r)) ∷ []
fluent_rates g env _ = []

-- ---- actions and snap actions

-- which bounds a mark stands for: an equality is its at-least bound, then its at-most bound
abbrev pub bound_kinds : Comparison → List Bool
bound_kinds Equal = true ∷ false ∷ []
bound_kinds AtLeast = true ∷ []
bound_kinds AtMost = false ∷ []
bound_kinds Below = []
bound_kinds Above = []

abbrev pub bounds : Ground → Instance → List Bound
bounds g i = flat_map (λ l. map (λ k. record {
  at_least = k;
  at_end = l.at_end;
  form = over_fluents g (form_or_zero (reckoned g.world no_unknowns (env_of i) l.expression));
}) (bound_kinds l.order)) (body_bounds i.action.body)

abbrev pub is_durative : ActionBody → Bool
is_durative (Instant c e) = false
is_durative (Durative d c e) = true

abbrev pub snap_of : Ground → ℕ → Instance → SnapKind → Stage → List (ℕ × ℚ) → Snap
snap_of g a i k stage rates = record {
  kind = k;
  action = Some a;
  condition = action_condition g (parts_at stage (conditions_of g.world i));
  effect = effect g (is_durative i.action.body) (env_of i) (parts_at stage (changes i.action));
  rates = rates;
}

-- The snap actions of instance number a: the start, which has the rates, and the end; or the instantaneous one.
abbrev pub snaps_of : Ground → ℕ → Instance → List Snap
snaps_of g a i = if is_durative i.action.body
    then (snap_of g a i snap.Start AtStart (flat_map (λ c. fluent_rates g (env_of i) c.part) (changes i.action))
    ∷ snap_of g a i snap.End AtEnd [] ∷ [])
    else (snap_of g a i snap.Instant AtStart [] ∷ [])

abbrev pub action_of : Ground → ℕ → Instance → Action
action_of g n i = record {
  name = i.action.name.bytes;
  args = i.args;
  start = n;
  end = if is_durative i.action.body then Some (n + 1) else None;
  bounds = bounds g i;
  over_all = action_condition g (parts_at OverAll (conditions_of g.world i));
}

-- The actions, whose snap actions are numbered from n on.
abbrev pub numbered_actions : Ground → ℕ → List Instance → List Action
numbered_actions g n [] = []
numbered_actions g n (i ∷ rest) =
    action_of g n i ∷ numbered_actions g (if is_durative i.action.body then n + 2 else n + 1) rest

abbrev pub action_snaps : Ground → List Instance → List Snap
action_snaps g is = flat_map (λ x. snaps_of g x.0 x.1) (enumerate_from 0 is)

-- ---- timed literals

-- a timed literal over a ground atom
pub record Timing : Type 0 where
  pub moment : ℚ
  pub holds : Bool
  pub atom : GroundAtom

abbrev pub timing : World → InitEntry → List Timing
timing w (init.Holds a) = []
timing w (init.Not at c) = []
timing w (init.Value at c q) = []
timing w (init.Timed l) = map (λ a. record { moment = l.moment; holds = l.holds; atom = ground_atom w [] a }) (atoms_in l.atom)
timing w (init.LeftOut at) = []

unfoldable pub timings : World → List InitEntry → List Timing
timings w entries = flat_map (timing w) entries

-- a moment among others that ascend strictly
abbrev pub with_moment : ℚ → List ℚ → List ℚ
with_moment t [] = t ∷ []
with_moment t (u ∷ us) = if t <? u then t ∷ u ∷ us else (if t =? u then u ∷ us else (u ∷ with_moment t us))

-- the moments at which timed literals stand, each once, ascending
abbrev pub moments : List Timing → List ℚ
moments [] = []
moments (l ∷ ls) = with_moment l.moment (moments ls)

abbrev pub literals_at : Ground → List Timing → ℚ → Bool → List ℕ
literals_at g ls t holds = map (λ l. fact_number g l.atom)
    (filter (λ l. (l.moment =? t) && (if holds then l.holds else not l.holds)) ls)

abbrev pub no_condition : Condition
no_condition = record { literals = []; comparisons = [] }

-- The timed literals of one moment are one step.
abbrev pub timed_snap : Ground → List Timing → ℚ → Snap
timed_snap g ls t = record {
  kind = snap.Timed;
  action = None;
  condition = no_condition;
  effect = record { adds = literals_at g ls t true; deletes = literals_at g ls t false; assigns = []; increases = [] };
  rates = [];
}

-- ---- the metric and the soft terms

abbrev pub metric : Ground → Metric
metric g = record {
  constant = g.cost.constant;
  last = coefficient g.cost.terms (own_unknown g.world);
  fluents = record { constant = zeroℚ; terms = (over_fluents g g.cost).terms };
}

abbrev pub preference_weight : Ground → Text → ℚ
preference_weight g n = coefficient g.cost.terms (preference_unknown g.world g.unknowns n)

abbrev pub cost_weight : Ground → Text → ℚ
cost_weight g n = coefficient g.cost.terms (cost_unknown g.world g.unknowns n)

-- several formulas are their conjunction
abbrev pub all_of : List FactTree → FactTree
all_of (f ∷ []) = f
all_of fs = fact.And fs

abbrev pub goal_soft : Ground → Leaf (Named SoftTree) → Env → Soft
goal_soft g l env = soft.Goal
    (all_of (map (formula g.world (fact_number g) env) (flat_map formulas_in (preference_parts g.world l.leaf.body))))
    (flat_map (λ x. flat_map (compared g) (comparisons_in g.world env x)) (preference_parts g.world l.leaf.body))
    (preference_weight g l.leaf.name)

abbrev pub trail_of : Ground → Trajectory → Env → Trail
trail_of g t env = record {
  kind = (watched t).kind;
  first = formula g.world (fact_number g) env (watched t).first;
  second = formula g.world (fact_number g) env (watched t).second;
  moment = (watched t).moment;
}

abbrev pub hard_of : Ground → Leaf (Option Text × Trajectory) → List Trail
hard_of g l = either (map (trail_of g l.leaf.1) (leaf_envs g.world l)) (λ n. []) l.leaf.0

abbrev pub soft_of : Ground → Leaf (Option Text × Trajectory) → List Soft
soft_of g l = either []
    (λ n. map (λ env. soft.Trail (trail_of g l.leaf.1 env) (preference_weight g n)) (leaf_envs g.world l))
    l.leaf.0

abbrev pub piece_of : PieceDef → List Piece
piece_of (piece.Piece at until from to) = record { until = until; from = from; to = to } ∷ []
piece_of (piece.LeftOut at) = []

abbrev pub soft_cost : FactTree → CostCurve → ℚ → Soft
soft_cost f (curve.Three s h t) weight = soft.Late f (record { soft = s; hard = h; top = t }) weight
soft_cost f (curve.Pieces ps) weight = soft.Pieces f (flat_map piece_of ps) weight

unfoldable pub hard_terms : Ground → List (Leaf (Option Text × Trajectory)) → List Trail
hard_terms g cs = flat_map (hard_of g) cs

-- The goal's preferences, then those of the domain's and of the problem's constraints, then the time costs; each in the
-- order of the text, and the instances of one in the order of the bindings.
unfoldable pub soft_terms : Ground → GoalTree → List (Leaf (Option Text × Trajectory)) → List Cost → List Soft
soft_terms g goal cs late = flat_map (λ l. map (goal_soft g l) (leaf_envs g.world l)) (goal_preferences goal)
    ++ flat_map (soft_of g) cs
    ++ map (λ c. soft_cost (formula g.world (fact_number g) [] c.formula) c.curve (cost_weight g c.name)) late

-- ---- the task

unfoldable pub ground_task : Domain → Problem → TaskParts
ground_task d p =
    let g = grounding d p in
    let is = kept g.world d.actions in
    let literals = timings g.world p.init in
    record {
      objects = g.world.objects;
      schemas = map (λ a. record {
        name = a.name.bytes;
        durative = is_durative a.body;
        params = columns g.world a.parameters;
      }) d.actions;
      facts = map (λ a. record {
        name = slice_index_or g.world.predicates (symbol a) [];
        args = arguments a;
        holds = g.world.is_held a;
      }) g.facts;
      fluents = map (λ f. record {
        name = slice_index_or g.world.functions (symbol f) [];
        args = arguments f;
        value = either zeroℚ (λ q. q) (g.world.value_of f);
      }) g.world.fluents;
      actions = numbered_actions g 0 is;
      snaps = action_snaps g is ++ map (timed_snap g literals) (moments literals);
      timed = map (λ x. (x.1, length (action_snaps g is) + x.0)) (enumerate_from 0 (moments literals));
      goal = goal_condition g (goal_parts g.world [] p.goal);
      hard = hard_terms g (constraints d p);
      soft = soft_terms g p.goal (constraints d p) (costs p);
      metric = metric g;
    }
