use Rattle.std.proofs.Common.{◌≡◌, sym, ap, subst, ◌∙◌, true, List, map, OnOk, Option, arith}
use Rattle.std.specs.List.{flat_map, list_all}
use Rattle.basics.proofs.Lists.{each_at, all_out}
use Rattle.pddl_terms.specs.declared.trees.Group.{Group}
use Rattle.pddl_names.specs.Declarations.{with_new}
use Rattle.ground_world.specs.World.{Env, GroundAtom}
use Rattle.ground_world.specs.declared.binding.Bound.{Bound}
use Rattle.ground_world.specs.Shown.{env_of, world_of}
use Rattle.grounder.specs.declared.quantified.Quantified.{Quantified}
use Rattle.grounder.proofs.OneByOne.{Few, added_more, added_env, some_binding, envs-taken}
use Rattle.pddl_terms.specs.declared.trees.GoalTree.{GoalTree}
use Rattle.grounder.specs.Reach.{goal_fits, quantified_goal_fits}
use Rattle.grounder.specs.Terms.{goal_atoms}
use Rattle.grounder.proofs.Asking.{fitting_condition, fitting_preference, fitting_and, fitting_forall, fitting_instance, none_mentioned}
use Rattle.grounder.proofs.GoalSteps.{mentioned-Condition, mentioned-And, mentioned-Forall, mentioned-Preference}
use Rattle.ground_world.proofs.Heights.{greatest}
use Rattle.grounder.proofs.TreeHeights.{below_greatest, goal_height, goal-And, goal-Forall}
use Rattle.grounder.proofs.mentioned_atoms.+goals.Goals as goal

pub add_goal_atoms-add_condition_atoms-requires : goal.add_goal_atoms-add_condition_atoms-requires
add_goal_atoms-add_condition_atoms-requires t c =
    let w = world_of c.args.tables.now in
    fitting_condition w c.in-Condition.condition (subst (λ (x : GoalTree). goal_fits w x ≡ true) c.in-Condition.is c.requires)

pub add_goal_atoms-add_preference_atoms-requires : goal.add_goal_atoms-add_preference_atoms-requires
add_goal_atoms-add_preference_atoms-requires t c =
    let w = world_of c.args.tables.now in
    fitting_preference w c.in-Preference.field-0 c.in-Preference.field-1 c.in-Preference.body (subst (λ (x : GoalTree). goal_fits w x ≡ true) c.in-Preference.is c.requires)

pub add_goal_atoms-add_all_goal_atoms-requires : goal.add_goal_atoms-add_all_goal_atoms-requires
add_goal_atoms-add_all_goal_atoms-requires t c =
    let w = world_of c.args.tables.now in
    let a = subst (λ (x : GoalTree). goal_fits w x ≡ true) c.in-And.is c.requires in
    let h = ap goal_height c.in-And.is ∙ goal-And c.in-And.field-0 c.in-And.parts in
    let s = ap (λ (l : List GoalTree). greatest (map goal_height l)) c.as_slice.ensures in
    (omega (arith, h, s, c.decreases), subst (λ (gs : List GoalTree). list_all (goal_fits w) gs ≡ true) (sym c.as_slice.ensures) (fitting_and w c.in-And.field-0 c.in-And.parts a))

pub add_goal_atoms-add_goal_instances-requires : goal.add_goal_atoms-add_goal_instances-requires
add_goal_atoms-add_goal_instances-requires t c =
    let w = world_of c.args.tables.now in
    let a = subst (λ (x : GoalTree). goal_fits w x ≡ true) c.in-Forall.is c.requires in
    let b = subst (λ (gs : List Group). quantified_goal_fits w gs c.in-Forall.body ≡ true) (sym c.as_slice-in-Forall.ensures) (fitting_forall w c.in-Forall.field-0 c.in-Forall.groups c.in-Forall.body a) in
    let h = ap goal_height c.in-Forall.is ∙ goal-Forall c.in-Forall.field-0 c.in-Forall.groups c.in-Forall.body in
    let s = ap goal_height c.get.ensures in
    (omega (arith, h, s, c.decreases), subst (λ (g : GoalTree). quantified_goal_fits w c.as_slice-in-Forall.result.now g ≡ true) (sym c.get.ensures) b)

pub add_goal_atoms-returns-in-Condition : goal.add_goal_atoms-returns-in-Condition
add_goal_atoms-returns-in-Condition t c =
    subst (λ (l : List GroundAtom). OnOk c.add_condition_atoms.result (c.add_condition_atoms.new.atoms ≡ with_new c.args.atoms.now l))
    (mentioned-Condition (world_of c.args.tables.now) (env_of c.args.env.now) c.in-Condition.is) c.add_condition_atoms.ensures

pub add_goal_atoms-returns-in-And : goal.add_goal_atoms-returns-in-And
add_goal_atoms-returns-in-And t c =
    subst (λ (l : List GroundAtom). OnOk c.add_all_goal_atoms.result (c.add_all_goal_atoms.new.atoms ≡ with_new c.args.atoms.now l))
    (mentioned-And (world_of c.args.tables.now) (env_of c.args.env.now) c.in-And.is c.as_slice.ensures) c.add_all_goal_atoms.ensures

pub add_goal_atoms-returns-in-Forall : goal.add_goal_atoms-returns-in-Forall
add_goal_atoms-returns-in-Forall t c =
    subst (λ (l : List GroundAtom). OnOk c.add_goal_instances.result (c.add_goal_instances.new.atoms ≡ with_new c.args.atoms.now l))
    (mentioned-Forall (world_of c.args.tables.now) (env_of c.args.env.now) c.in-Forall.is c.as_slice-in-Forall.ensures c.get.ensures) c.add_goal_instances.ensures

pub add_goal_atoms-returns-in-Preference : goal.add_goal_atoms-returns-in-Preference
add_goal_atoms-returns-in-Preference t c =
    subst (λ (l : List GroundAtom). OnOk c.add_preference_atoms.result (c.add_preference_atoms.new.atoms ≡ with_new c.args.atoms.now l))
    (mentioned-Preference (world_of c.args.tables.now) (env_of c.args.env.now) c.in-Preference.is) c.add_preference_atoms.ensures

pub add_all_goal_atoms-add_goal_atoms-requires : goal.add_all_goal_atoms-add_goal_atoms-requires
add_all_goal_atoms-add_goal_atoms-requires t c =
    let w = world_of c.args.tables.now in
    let below = below_greatest goal_height c.args.trees.now c.loop-tree.tree-index c.tree-item.result c.loop-tree-test.true c.tree-item.is in (
      omega (arith, below, c.decreases),
      subst (λ (x : GoalTree). goal_fits w x ≡ true) (sym c.tree-item.is)
          (each_at (λ (x : GoalTree). goal_fits w x ≡ true) c.args.trees.now c.loop-tree.tree-index c.tree-item.result c.loop-tree-test.true (all_out (goal_fits w) c.args.trees.now c.requires)),
    )

pub add_all_goal_atoms-loop-tree-preserved : goal.add_all_goal_atoms-loop-tree-preserved
add_all_goal_atoms-loop-tree-preserved t c =
    added_more c.args.trees.now c.loop-tree.tree-index c.tree-item.result c.loop-tree-test.true c.tree-item.is
    (goal_atoms (world_of c.args.tables.now) (env_of c.args.env.now)) c.args.atoms.now c.loop-tree.atoms c.add_goal_atoms.new.atoms c.loop-tree.invariant c.in_ok-add_goal_atoms.ensures

pub add_goal_instances-add_goal_atoms-requires : goal.add_goal_instances-add_goal_atoms-requires
add_goal_instances-add_goal_atoms-requires t c =
    let w = world_of c.args.tables.now in
    let are = subst (λ (o : Option Quantified). Few w c.args.groups.now o) c.in-Some.is c.in_ok-quantified.ensures in
    let p = some_binding w c.in-Some.quantified (env_of c.args.env.now) c.args.groups.now (are (env_of c.args.env.now)) c.loop-number.number c.loop-number-test.true in
    (omega (arith, c.decreases), fitting_instance w c.args.groups.now c.args.body.now p c.requires)

pub add_goal_instances-loop-number-preserved : goal.add_goal_instances-loop-number-preserved
add_goal_instances-loop-number-preserved t c =
    let w = world_of c.args.tables.now in
    let b = c.args.body.now in
    added_env c.in-Some.quantified (env_of c.args.env.now) (env_of c.in_ok-inner-in-Some.inner) c.loop-number.number c.loop-number-test.true c.in_ok-inner-in-Some.ensures
    (λ e. goal_atoms w e b) (goal_atoms w (env_of c.as_slice.result.now) b) c.args.atoms.now c.loop-number.atoms c.add_goal_atoms.new.atoms c.loop-number.invariant
    (ap (λ (l : List Bound). goal_atoms w (env_of l) b) c.as_slice.ensures) c.in_ok-add_goal_atoms-in-Some.ensures

pub add_goal_instances-returns-after-loop-number : goal.add_goal_instances-returns-after-loop-number
add_goal_instances-returns-after-loop-number t c =
    let w = world_of c.args.tables.now in
    let are = subst (λ (o : Option Quantified). Few w c.args.groups.now o) c.in-Some.is c.in_ok-quantified.ensures in
    c.loop-number.invariant
    ∙ ap (λ (es : List Env). with_new c.args.atoms.now (flat_map (λ e. goal_atoms w e c.args.body.now) es))
    (envs-taken w c.in-Some.quantified (env_of c.args.env.now) c.args.groups.now (are (env_of c.args.env.now)) c.loop-number.number c.loop-number-test.false)

pub add_goal_instances-returns-in-None : goal.add_goal_instances-returns-in-None
add_goal_instances-returns-in-None t c =
    let w = world_of c.args.tables.now in
    let many = subst (λ (o : Option Quantified). Few w c.args.groups.now o) c.in-None.is c.in_ok-quantified.ensures in
    ap (with_new c.args.atoms.now) (sym (none_mentioned w (env_of c.args.env.now) c.args.groups.now c.args.body.now many c.requires))
