use Rattle.std.proofs.Common.{◌≤◌, sym, ap, ap₂, subst, ◌∙◌, List, [], ◌++◌, map}
use Rattle.std.specs.Borrow.{Bor}
use Rattle.rational.specs.Rational.{ℚ}
use Rattle.pddl_terms.specs.declared.trees.Group.{Group}
use Rattle.ground_world.specs.Bindings.{nested_bindings}
use Rattle.ground_world.specs.Counts.{around_count, soft_count, binding_limit}
use Rattle.ground_world.specs.Shown.{env_of}
use Rattle.ground_world.specs.ShownLeaves.{lists_of}
use Rattle.ground_world.specs.World.{Env}
use Rattle.ground_world.specs.declared.binding.Bound.{Bound}
use Rattle.grounder.specs.GoalTerms.{goal_term}
use Rattle.grounder.specs.ShownGrounding.{ground_of}
use Rattle.grounder.specs.ShownPreferences.{preferences_of}
use Rattle.grounder.specs.ShownTerms.{preference_leaf}
use Rattle.grounder.specs.Task.{goal_soft}
use Rattle.grounder.specs.Terms.{PreferencePart}
use Rattle.grounder.proofs.OneByOne.{put_env, envs-all}
use Rattle.grounder.proofs.Reaching.{outer_few}
use Rattle.grounder.proofs.TermSteps.{few_parts}
use Rattle.grounder.proofs.terms.push_goal_terms.Goals as goal

pub nested-requires : goal.nested-requires
nested-requires c =
    let w = (ground_of c.args.grounding.now).world in
    subst (λ (l : List (Bor (List Group))). around_count w (lists_of l) ≤ binding_limit) (sym c.as_slice.ensures)
    (outer_few (around_count w (lists_of c.args.leaf.now.around)) (soft_count w c.args.leaf.now.body.now) c.requires)

pub goal_term-requires : goal.goal_term-requires
goal_term-requires c =
    let w = (ground_of c.args.grounding.now).world in
    few_parts w (lists_of c.args.leaf.now.around) c.args.leaf.now.body.now c.requires c.in_ok-quantified.quantified
    (c.in_ok-quantified.ensures [] ∙ ap (λ (l : List (Bor (List Group))). nested_bindings w [] (lists_of l)) c.as_slice.ensures) c.loop-number.number c.loop-number-test.true
    c.as_slice-in-loop-number-2.result.now (ap preferences_of c.as_slice-in-loop-number-2.ensures ∙ c.in_ok-parts.ensures)

pub loop-number-preserved : goal.loop-number-preserved
loop-number-preserved c =
    let g = ground_of c.args.grounding.now in
    let own = goal_soft g (preference_leaf c.args.leaf.now) in
    put_env c.in_ok-quantified.quantified [] (env_of c.in_ok-env.env) c.loop-number.number c.loop-number-test.true c.in_ok-env.ensures
    own _ c.args.out.now c.loop-number.out _ c.loop-number.invariant
    (c.in_ok-goal_term.ensures
    ∙ ap₂ (λ (xs : List PreferencePart) (q : ℚ). goal_term g xs q (env_of c.as_slice-in-loop-number.result.now)) (ap preferences_of c.as_slice-in-loop-number-2.ensures ∙ c.in_ok-parts.ensures) c.preference_weight-weight.ensures
    ∙ ap (λ (l : List Bound). own (env_of l)) c.as_slice-in-loop-number.ensures) c.in_ok-push.ensures.ok

pub returns : goal.returns
returns c =
    let g = ground_of c.args.grounding.now in
    c.loop-number.invariant
    ∙ ap (λ (es : List Env). c.args.out.now ++ map (goal_soft g (preference_leaf c.args.leaf.now)) es)
    (envs-all c.in_ok-quantified.quantified [] (nested_bindings g.world [] (lists_of c.args.leaf.now.around))
    (c.in_ok-quantified.ensures [] ∙ ap (λ (l : List (Bor (List Group))). nested_bindings g.world [] (lists_of l)) c.as_slice.ensures) c.loop-number.number c.loop-number-test.false)
