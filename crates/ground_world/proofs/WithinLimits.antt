-- All that is looked at, within its limits.
use Rattle.std.proofs.Common.{◌≡◌, sym, ap₂, ◌∙◌, Bool, ◌&&◌, [], Option}
use Rattle.std.specs.List.{list_all}
use Rattle.std.proofs.lemmas.List.Folds.{list_all-append}
use Rattle.pddl_terms.specs.declared.trees.SoftTree.{SoftTree}
use Rattle.pddl_terms.specs.declared.trees.Trajectory.{Trajectory}
use Rattle.pddl_terms.specs.declared.files.Domain.{Domain}
use Rattle.pddl_terms.specs.declared.files.Problem.{Problem}
use Rattle.pddl_names.specs.Declarations.{Text}
use Rattle.ground_world.specs.World.{World, either}
use Rattle.ground_world.specs.Leaves.{Named, goal_preferences, constraint_leaves, constraints, cost_of}
use Rattle.ground_world.specs.Counts.{fit_limits, soft_count, trajectory_count, goal_count, bindings_fit}
use Rattle.ground_world.specs.Counting.{action_fits, preference_fits, constraint_fits, cost_fits}
use Rattle.ground_world.proofs.LeafLimits.{list_all-flat_map, fits-outermost}

-- What is looked at is within its limits where the actions are, the preferences, the constraints of the domain and of
-- the problem, the goal and the time costs.
pub bindings-fit : (w : World) (d : Domain) (p : Problem) (actions preferences domain problem goal costs : Bool)
    → actions ≡ list_all (action_fits w) d.actions
    → preferences ≡ list_all (preference_fits w 1) (goal_preferences p.goal)
    → domain ≡ list_all (constraint_fits w 1) (either [] constraint_leaves d.constraints)
    → problem ≡ list_all (constraint_fits w 1) (either [] constraint_leaves p.constraints)
    → goal ≡ fit_limits 1 (goal_count w p.goal)
    → costs ≡ list_all (λ c. list_all (cost_fits w) (cost_of c)) p.time_costs
    → (actions && preferences && (domain && problem) && goal && costs) ≡ bindings_fit w d p
unfolding bindings_fit
bindings-fit w d p actions preferences domain problem goal costs a b e f g h =
    ap₂ (λ x y. x && y) (ap₂ (λ x y. x && y) (ap₂ (λ x y. x && y) (ap₂ (λ x y. x && y) a
    (b ∙ fits-outermost w (λ (l : Named SoftTree). soft_count w l.body) (goal_preferences p.goal)))
    (ap₂ (λ x y. x && y) e f ∙ sym (list_all-append (constraint_fits w 1) (either [] constraint_leaves d.constraints) (either [] constraint_leaves p.constraints))
    ∙ fits-outermost w (λ (l : Option Text × Trajectory). trajectory_count w l.1) (constraints d p))) g)
    (h ∙ sym (list_all-flat_map (cost_fits w) cost_of p.time_costs))
