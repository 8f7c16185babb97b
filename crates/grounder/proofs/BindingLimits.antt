-- What keeps within the limit of bindings, part by part.
use Rattle.std.proofs.Common.{◌≡◌, ◌≤◌, arith, true}
use Rattle.std.specs.List.{list_all}
use Rattle.basics.proofs.Bools.{and_left, and_right}
use Rattle.pddl_terms.specs.declared.files.Domain.{Domain}
use Rattle.pddl_terms.specs.declared.files.Problem.{Problem}
use Rattle.ground_world.specs.World.{World, columns}
use Rattle.ground_world.specs.Bindings.{choice_count}
use Rattle.ground_world.specs.Counts.{bindings_fit, body_count, fit_limits, goal_count, part_limit}
use Rattle.ground_world.specs.Leaves.{constraints, costs, goal_preferences}
use Rattle.grounder.specs.Reach.{cost_fits, leaf_fits, preference_fits}
use Rattle.grounder.proofs.Reaching.{parts_few}

module _ (w : World) (d : Domain) (p : Problem) (h : bindings_fit w d p ≡ true) where
  pub actions-within : list_all (λ a. fit_limits (choice_count (columns w a.parameters)) (body_count w a.body)) d.actions ≡ true
  unfolding bindings_fit
  actions-within = and_left _ _ (and_left _ _ (and_left _ _ (and_left _ _ h)))

  pub preferences-within : list_all (preference_fits w) (goal_preferences p.goal) ≡ true
  unfolding bindings_fit
  preferences-within = and_right _ _ (and_left _ _ (and_left _ _ (and_left _ _ h)))

  pub constraints-within : list_all (leaf_fits w) (constraints d p) ≡ true
  unfolding bindings_fit
  constraints-within = and_right _ _ (and_left _ _ (and_left _ _ h))

  pub goal-within : goal_count w p.goal ≤ part_limit
  unfolding bindings_fit
  goal-within = parts_few 1 (goal_count w p.goal) (omega arith) (and_right _ _ (and_left _ _ h))

  pub costs-within : list_all (cost_fits w) (costs p) ≡ true
  unfolding bindings_fit
  costs-within = and_right _ _ h
