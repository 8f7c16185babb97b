-- Believed: the preferences of a goal and the constraints, each with its name and the variables around it; the time
-- costs; and the metric, to be minimised.
use Rattle.std.specs.Prelude.{if◌then◌else◌, List, [], ◌∷◌, ◌++◌, map, Option, Some, None, codes}
use Rattle.std.specs.List.{flat_map}
use Rattle.exact_lin.specs.Forms.{LinearForm}
use Rattle.pddl_terms.specs.declared.trees.Name.{Name}
use Rattle.pddl_terms.specs.declared.trees.Group.{Group}
use Rattle.pddl_terms.specs.declared.trees.FactForm.{FactForm}
use Rattle.pddl_terms.specs.declared.trees.SoftTree.{SoftTree}
use Rattle.pddl_terms.specs.declared.trees.GoalTree.{GoalTree, fold-GoalTree}
use Rattle.pddl_terms.specs.declared.trees.GoalTree.TheOpen.{GoalTree-F}
use Rattle.pddl_terms.specs.declared.trees.Trajectory.{Trajectory}
use Rattle.pddl_terms.specs.declared.trees.ConForm.{ConForm, fold-ConForm}
use Rattle.pddl_terms.specs.declared.trees.ConForm.TheOpen.{ConForm-F}
use Rattle.pddl_terms.specs.declared.files.Aim.{Aim}
use Rattle.pddl_terms.specs.declared.files.Aim.TheVariants.{Minimize, Maximize}
use Rattle.pddl_terms.specs.declared.files.CostCurve.{CostCurve}
use Rattle.pddl_terms.specs.declared.files.Metric.{Metric}
use Rattle.pddl_terms.specs.declared.files.TimeCost.{TimeCost}
use Rattle.pddl_terms.specs.declared.files.TimeCost.TheVariants as cost
use Rattle.pddl_terms.specs.declared.files.Domain.{Domain}
use Rattle.pddl_terms.specs.declared.files.Problem.{Problem}
use Rattle.pddl_names.specs.Declarations.{Text, with_new}
use Rattle.ground_world.specs.World.{either, World, Env}
use Rattle.ground_world.specs.Bindings.{nested_bindings}
use Rattle.ground_world.specs.FirstState.{unvalued_places, no_places}
use Rattle.ground_world.specs.Expressions.{Unknowns, reckoned, mentioned, own_unknown, unknown, form_or_zero, negative}

-- ---- the leaves of goals and constraints, each with the lists of variables around it, outer first

pub record Leaf (A : Type 0) : Type 0 where
  pub around : List (List Group)
  pub leaf : A

abbrev pub within : {A : Type 0} → List Group → List (Leaf A) → List (Leaf A)
within vars ls = map (λ l. record { around = vars ∷ l.around; leaf = l.leaf }) ls

abbrev pub bare : {A : Type 0} → A → List (Leaf A)
bare x = record { around = []; leaf = x } ∷ []

-- the instances of a leaf: one for each binding of the variables around it
abbrev pub leaf_envs : {A : Type 0} → World → Leaf A → List Env
leaf_envs w l = nested_bindings w [] l.around

-- a preference with its name
pub record Named (A : Type 0) : Type 0 where
  pub name : Text
  pub body : A

abbrev pub anonymous : Text
anonymous = codes "anonymous"

abbrev pub name_or_anonymous : Option Name → Text
name_or_anonymous n = either anonymous (λ m. m.bytes) n

abbrev pub preference_layer : GoalTree-F (List (Leaf (Named SoftTree))) → List (Leaf (Named SoftTree))
preference_layer (GoalTree-F.Condition c) = []
preference_layer (GoalTree-F.And at parts) = flat_map (λ part. part) parts
preference_layer (GoalTree-F.Forall at vars body) = within vars body
preference_layer (GoalTree-F.Preference at name s) = bare (record { name = name_or_anonymous name; body = s })

unfoldable pub goal_preferences : GoalTree → List (Leaf (Named SoftTree))
goal_preferences g = fold-GoalTree (List (Leaf (Named SoftTree))) preference_layer g

-- a hard constraint has no name
abbrev pub constraint_layer : ConForm-F (List (Leaf (Option Text × Trajectory))) → List (Leaf (Option Text × Trajectory))
constraint_layer (ConForm-F.And at parts) = flat_map (λ part. part) parts
constraint_layer (ConForm-F.Forall at vars body) = within vars body
constraint_layer (ConForm-F.Hard t) = bare (None, t)
constraint_layer (ConForm-F.Preference at name t) = bare (Some (name_or_anonymous name), t)

unfoldable pub constraint_leaves : ConForm → List (Leaf (Option Text × Trajectory))
constraint_leaves c = fold-ConForm (List (Leaf (Option Text × Trajectory))) constraint_layer c

-- the domain's constraints, then the problem's
abbrev pub constraints : Domain → Problem → List (Leaf (Option Text × Trajectory))
constraints d p = either [] constraint_leaves d.constraints ++ either [] constraint_leaves p.constraints

-- ---- time costs

-- a time cost: what it costs that the formula first holds at some moment
pub record Cost : Type 0 where
  pub name : Text
  pub formula : FactForm
  pub curve : CostCurve

abbrev pub cost_of : TimeCost → List Cost
cost_of (cost.Named at n f c) = record { name = n.bytes; formula = f; curve = c } ∷ []
cost_of (cost.LeftOut at) = []

abbrev pub costs : Problem → List Cost
costs p = flat_map cost_of p.time_costs

-- ---- the metric

abbrev pub preference_name : Option Text → List Text
preference_name None = []
preference_name (Some n) = n ∷ []

-- the names of the preferences, those of the goal first, and of the time costs, each once
abbrev pub unknowns : Domain → Problem → Unknowns
unknowns d p = record {
  preferences = with_new [] (map (λ l. l.leaf.name) (goal_preferences p.goal) ++ flat_map (λ l. preference_name l.leaf.0) (constraints d p));
  costs = with_new [] (map (λ c. c.name) (costs p));
}

-- the form to be minimised: a maximised one is negated
abbrev pub toward : Aim → LinearForm → LinearForm
toward Minimize f = f
toward Maximize f = negative f

-- The minimised form of the metric; with no metric it is the total time.
abbrev pub minimised : World → Domain → Problem → LinearForm
minimised w d p = either (unknown (own_unknown w))
    (λ m. toward m.aim (form_or_zero (reckoned w (unknowns d p) [] m.expression)))
    p.metric

-- The minimised form of a metric, where it is reckoned: each fluent has a first value, no divisor is 0, and each sum and
-- product is defined.
abbrev pub metric_value : World → Unknowns → Env → Metric → Option LinearForm
metric_value w us env m = if no_places (unvalued_places w (mentioned w env m.expression))
    then either None (λ f. Some (toward m.aim f)) (reckoned w us env m.expression).value else None

-- The same of a problem, whose metric is the total time where it names none.
abbrev pub minimised_value : World → Unknowns → Option Metric → Option LinearForm
minimised_value w us metric = either (Some (unknown (own_unknown w))) (metric_value w us []) metric
