use Rattle.std.proofs.Common.{◌≡◌, ◌≤◌, sym, ap, subst, ◌∙◌, List, ◌++◌, map, false, OnOk, arith}
use Rattle.std.proofs.lemmas.List.{append-nil, map-id}
use Rattle.std.specs.List.{flat_map}
use Rattle.pddl_terms.specs.declared.trees.Group.{Group}
use Rattle.pddl_terms.specs.declared.trees.GoalTree.{GoalTree}
use Rattle.ground_world.specs.World.{Env}
use Rattle.ground_world.specs.declared.binding.Bound.{Bound}
use Rattle.ground_world.specs.Bindings.{bindings}
use Rattle.ground_world.specs.Conditions.{Part, condition_parts}
use Rattle.ground_world.specs.Counts.{hard_count, goal_count, part_limit}
use Rattle.ground_world.specs.Shown.{env_of, world_of, parts_of, turned}
use Rattle.grounder.specs.Asked.{count_of, all_count, written_count}
use Rattle.grounder.specs.Terms.{goal_parts}
use Rattle.grounder.proofs.Asking.{and_within, condition_within, forall_within, goal_within, instance_within, few_ways, nothing_everywhere}
use Rattle.grounder.proofs.GoalSteps.{goal-Condition, goal-And, goal-Forall, goal-Preference}
use Rattle.grounder.proofs.OneByOne.{joined_more, joined_env, some_binding, envs-taken}
use Rattle.ground_world.proofs.Heights.{greatest}
use Rattle.grounder.proofs.TreeHeights.{below_greatest, goal_height}
use Rattle.grounder.proofs.TreeHeights.{goal-And as height-And, goal-Forall as height-Forall}
use Rattle.grounder.proofs.goals.+goals.Goals as goal

unturned : (ps : List Part) → map (turned false) ps ≡ ps
unturned ps = map-id ps

pub push_goal_parts-push_parts-requires : goal.push_goal_parts-push_parts-requires
push_goal_parts-push_parts-requires t c =
    let w = world_of c.args.tables.now in
    condition_within w c.in-Condition.condition (subst (λ (x : GoalTree). goal_count w x ≤ part_limit) c.in-Condition.is c.requires)

pub push_goal_parts-push_all_parts-requires : goal.push_goal_parts-push_all_parts-requires
push_goal_parts-push_all_parts-requires t c =
    let w = world_of c.args.tables.now in
    let a = subst (λ (x : GoalTree). goal_count w x ≤ part_limit) c.in-And.is c.requires in
    let h = ap goal_height c.in-And.is ∙ height-And c.in-And.field-0 c.in-And.parts in
    let s = ap (λ (l : List GoalTree). greatest (map goal_height l)) c.as_slice.ensures in
    (omega (arith, h, s, c.decreases), subst (λ (gs : List GoalTree). count_of (all_count w gs) ≤ part_limit) (sym c.as_slice.ensures) (and_within w c.in-And.field-0 c.in-And.parts a))

pub push_goal_parts-push_instance_parts-requires : goal.push_goal_parts-push_instance_parts-requires
push_goal_parts-push_instance_parts-requires t c =
    let w = world_of c.args.tables.now in
    let a = subst (λ (x : GoalTree). goal_count w x ≤ part_limit) c.in-Forall.is c.requires in
    let b = subst (λ (gs : List Group). count_of (written_count w gs (hard_count w c.in-Forall.body)) ≤ part_limit) (sym c.as_slice-in-Forall.ensures) (forall_within w c.in-Forall.field-0 c.in-Forall.groups c.in-Forall.body a) in
    let h = ap goal_height c.in-Forall.is ∙ height-Forall c.in-Forall.field-0 c.in-Forall.groups c.in-Forall.body in
    let s = ap goal_height c.get.ensures in
    (omega (arith, h, s, c.decreases), subst (λ (g : GoalTree). count_of (written_count w c.as_slice-in-Forall.result.now (hard_count w g)) ≤ part_limit) (sym c.get.ensures) b)

pub push_goal_parts-returns-in-Condition : goal.push_goal_parts-returns-in-Condition
push_goal_parts-returns-in-Condition t c =
    subst (λ (l : List Part). OnOk c.push_parts.result (parts_of c.push_parts.new.out ≡ parts_of c.args.out.now ++ l))
    (unturned (condition_parts (world_of c.args.tables.now) (env_of c.args.env.now) c.in-Condition.condition)
    ∙ goal-Condition (world_of c.args.tables.now) (env_of c.args.env.now) c.in-Condition.is) c.push_parts.ensures

pub push_goal_parts-returns-in-And : goal.push_goal_parts-returns-in-And
push_goal_parts-returns-in-And t c =
    subst (λ (l : List Part). OnOk c.push_all_parts.result (parts_of c.push_all_parts.new.out ≡ parts_of c.args.out.now ++ l))
    (goal-And (world_of c.args.tables.now) (env_of c.args.env.now) c.in-And.is c.as_slice.ensures) c.push_all_parts.ensures

pub push_goal_parts-returns-in-Forall : goal.push_goal_parts-returns-in-Forall
push_goal_parts-returns-in-Forall t c =
    subst (λ (l : List Part). OnOk c.push_instance_parts.result (parts_of c.push_instance_parts.new.out ≡ parts_of c.args.out.now ++ l))
    (goal-Forall (world_of c.args.tables.now) (env_of c.args.env.now) c.in-Forall.is c.as_slice-in-Forall.ensures c.get.ensures) c.push_instance_parts.ensures

pub push_goal_parts-returns-in-Preference : goal.push_goal_parts-returns-in-Preference
push_goal_parts-returns-in-Preference t c =
    sym (append-nil (parts_of c.args.out.now))
    ∙ ap (λ (l : List Part). parts_of c.args.out.now ++ l) (goal-Preference (world_of c.args.tables.now) (env_of c.args.env.now) c.in-Preference.is)

pub push_all_parts-push_goal_parts-requires : goal.push_all_parts-push_goal_parts-requires
push_all_parts-push_goal_parts-requires t c =
    let below = below_greatest goal_height c.args.trees.now c.loop-tree.tree-index c.tree-item.result c.loop-tree-test.true c.tree-item.is in
    (omega (arith, below, c.decreases), goal_within (world_of c.args.tables.now) c.args.trees.now c.loop-tree.tree-index c.tree-item.result c.loop-tree-test.true c.tree-item.is c.requires)

pub push_all_parts-loop-tree-preserved : goal.push_all_parts-loop-tree-preserved
push_all_parts-loop-tree-preserved t c =
    joined_more c.args.trees.now c.loop-tree.tree-index c.tree-item.result c.loop-tree-test.true c.tree-item.is
    (goal_parts (world_of c.args.tables.now) (env_of c.args.env.now)) (parts_of c.args.out.now) (parts_of c.loop-tree.out) (parts_of c.push_goal_parts.new.out) c.loop-tree.invariant c.in_ok-push_goal_parts.ensures

pub push_instance_parts-push_goal_parts-requires : goal.push_instance_parts-push_goal_parts-requires
push_instance_parts-push_goal_parts-requires t c =
    let w = world_of c.args.tables.now in
    let p = some_binding w c.in_ok-quantified.quantified (env_of c.args.env.now) c.args.groups.now (c.in_ok-quantified.ensures (env_of c.args.env.now)) c.loop-number.number c.loop-number-test.true in
    (omega (arith, c.decreases), instance_within w c.args.groups.now (hard_count w c.args.body.now) p c.requires)

pub push_instance_parts-loop-number-preserved : goal.push_instance_parts-loop-number-preserved
push_instance_parts-loop-number-preserved t c =
    let w = world_of c.args.tables.now in
    let b = c.args.body.now in
    joined_env c.in_ok-quantified.quantified (env_of c.args.env.now) (env_of c.in_ok-inner.inner) c.loop-number.number c.loop-number-test.true c.in_ok-inner.ensures
    (λ e. goal_parts w e b) (goal_parts w (env_of c.as_slice.result.now) b) (parts_of c.args.out.now) (parts_of c.loop-number.out) (parts_of c.push_goal_parts.new.out) c.loop-number.invariant
    (ap (λ (l : List Bound). goal_parts w (env_of l) b) c.as_slice.ensures) c.in_ok-push_goal_parts.ensures

pub push_instance_parts-returns : goal.push_instance_parts-returns
push_instance_parts-returns t c =
    let w = world_of c.args.tables.now in
    c.loop-number.invariant
    ∙ ap (λ (es : List Env). parts_of c.args.out.now ++ flat_map (λ e. goal_parts w e c.args.body.now) es)
    (envs-taken w c.in_ok-quantified.quantified (env_of c.args.env.now) c.args.groups.now (c.in_ok-quantified.ensures (env_of c.args.env.now)) c.loop-number.number c.loop-number-test.false)

pub push_instance_parts-returns-then-not-is_asking : goal.push_instance_parts-returns-then-not-is_asking
push_instance_parts-returns-then-not-is_asking t c =
    let w = world_of c.args.tables.now in
    sym (append-nil (parts_of c.args.out.now))
    ∙ ap (λ (l : List Part). parts_of c.args.out.now ++ l)
    (sym (nothing_everywhere w c.args.body.now (sym (c.is_asking.ensures w) ∙ c.if-not-is_asking.true) (bindings w (env_of c.args.env.now) c.args.groups.now)))

pub push_instance_parts-quantified-requires : goal.push_instance_parts-quantified-requires
push_instance_parts-quantified-requires t c =
    let w = world_of c.args.tables.now in
    few_ways w c.args.groups.now (hard_count w c.args.body.now) (sym (c.is_asking.ensures w) ∙ c.if-not-is_asking.false) c.requires
