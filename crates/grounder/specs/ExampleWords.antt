-- Believed: short words for the examples: names, atoms and lists of variables, each with its place in the text, and the
-- parts of the ground task.
use Rattle.std.specs.Prelude.{ℕ, List, [], ◌∷◌, map, None, codes}
use Rattle.rational.specs.Rational.{ℚ}
use Rattle.task_types.specs.declared.actions.Action.{Action}
use Rattle.task_types.specs.declared.actions.Snap.{Snap}
use Rattle.task_types.specs.declared.conditions.Condition.{Condition}
use Rattle.task_types.specs.declared.constraints.Trail.{Trail}
use Rattle.task_types.specs.declared.costs.Soft.{Soft}
use Rattle.task_types.specs.declared.costs.Soft.TheVariants as soft
use Rattle.task_types.specs.declared.formulas.FactTree.{FactTree}
use Rattle.pddl_terms.specs.declared.trees.Name.{Name}
use Rattle.pddl_terms.specs.declared.trees.Term.{Term}
use Rattle.pddl_terms.specs.declared.trees.Atom.{Atom}
use Rattle.pddl_terms.specs.declared.trees.TypeName.{TypeName}
use Rattle.pddl_terms.specs.declared.trees.TypeName.TheVariants.{Object}
use Rattle.pddl_terms.specs.declared.trees.Group.{Group}
use Rattle.pddl_terms.specs.declared.trees.GoalTree.TheVariants.{And}
use Rattle.pddl_terms.specs.declared.files.Domain.{Domain}
use Rattle.pddl_terms.specs.declared.files.Problem.{Problem}
use Rattle.ground_world.specs.World.{GroundAtom}
use Rattle.ground_world.specs.FirstState.{world}
use Rattle.ground_world.specs.Leaves.{constraints, costs}
use Rattle.grounder.specs.Instances.{Instance, kept}
use Rattle.grounder.specs.Terms.{goal_parts}
use Rattle.grounder.specs.Task.{grounding, fact_atoms, numbered_actions, action_snaps, goal_condition, hard_terms, soft_terms}

abbrev pub name : ℕ → List ℕ → Name
name at bytes = record { at = at; bytes = bytes }

abbrev pub atom : ℕ → Name → List Term → Atom
atom at n terms = record { at = at; name = n; terms = terms }

abbrev pub group : List Name → TypeName → Group
group names of = record { names = names; of = of }

-- a domain d without anything, and a problem e of two objects, a and b, that asks nothing
abbrev pub plain_domain : Domain
plain_domain = record {
  name = name 0 (codes "d");
  requirements = [];
  types = [];
  constants = [];
  predicates = [];
  functions = [];
  constraints = None;
  actions = [];
  left_out = [];
}

abbrev pub plain_problem : Problem
plain_problem = record {
  name = name 0 (codes "e");
  domain = name 0 (codes "d");
  requirements = [];
  objects = group (name 0 (codes "a") ∷ name 0 (codes "b") ∷ []) Object ∷ [];
  init = [];
  goal = And 0 [];
  constraints = None;
  time_costs = [];
  metric = None;
  left_out = [];
}

-- the arguments of the ground actions
abbrev pub kept_arguments : Domain → Problem → List (List ℕ)
kept_arguments d p = map (λ (i : Instance). i.args) (kept (world d p) d.actions)

abbrev pub facts : Domain → Problem → List GroundAtom
facts d p = fact_atoms (world d p) d p

abbrev pub fluents : Domain → Problem → List GroundAtom
fluents d p = (world d p).fluents

abbrev pub actions : Domain → Problem → List Action
actions d p = numbered_actions (grounding d p) 0 (kept (world d p) d.actions)

abbrev pub snaps : Domain → Problem → List Snap
snaps d p = action_snaps (grounding d p) (kept (world d p) d.actions)

abbrev pub goal_of : Domain → Problem → Condition
goal_of d p = goal_condition (grounding d p) (goal_parts (world d p) [] p.goal)

abbrev pub hards : Domain → Problem → List Trail
hards d p = hard_terms (grounding d p) (constraints d p)

abbrev pub softs : Domain → Problem → List Soft
softs d p = soft_terms (grounding d p) p.goal (constraints d p) (costs p)

-- the formula of a soft term; of a constraint in a preference the first
abbrev pub formula_of : Soft → FactTree
formula_of (soft.Trail t q) = t.first
formula_of (soft.Goal f cs q) = f
formula_of (soft.Late f c q) = f
formula_of (soft.Pieces f ps q) = f

abbrev pub weight_of : Soft → ℚ
weight_of (soft.Trail t q) = q
weight_of (soft.Goal f cs q) = q
weight_of (soft.Late f c q) = q
weight_of (soft.Pieces f ps q) = q
