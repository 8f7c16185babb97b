use Rattle.std.proofs.Common.{sym, ap, ◌∙◌, List, ◌++◌, map}
use Rattle.std.specs.List.{flat_map}
use Rattle.pddl_terms.specs.declared.trees.SoftTree.{SoftTree}
use Rattle.task_types.specs.declared.costs.Soft.{Soft}
use Rattle.ground_world.specs.Leaves.{Leaf, Named, leaf_envs}
use Rattle.ground_world.specs.ShownLeaves.{preferences_of, constraints_of, costs_of}
use Rattle.grounder.specs.GoalTerms.{cost_term}
use Rattle.grounder.specs.ShownGrounding.{ground_of}
use Rattle.grounder.specs.Task.{Ground, goal_soft, soft_of, soft_terms}
use Rattle.grounder.proofs.terms.soft_terms.Goals as goal

-- the soft terms of the preferences of the goal
preference_terms : Ground → List (Leaf (Named SoftTree)) → List Soft
preference_terms g ls = flat_map (λ l. map (goal_soft g l) (leaf_envs g.world l)) ls

pub returns : goal.returns
unfolding soft_terms preference_terms
returns c tree same =
    let g = ground_of c.args.grounding.now in
    let constraints = flat_map (soft_of g) (constraints_of c.args.constraints.now) in
    let costs = map (cost_term g) (costs_of c.args.costs.now) in
    c.in_ok-push_cost_terms.ensures
    ∙ ap (λ (l : List Soft). l ++ costs) (c.in_ok-push_all_soft.ensures ∙ ap (λ (l : List Soft). l ++ constraints)
    (c.in_ok-push_all_goal_terms.ensures ∙ ap (λ (l : List Soft). l ++ preference_terms g (preferences_of c.args.preferences.now)) c.new-out.ensures
    ∙ ap (preference_terms g) (sym same)))
