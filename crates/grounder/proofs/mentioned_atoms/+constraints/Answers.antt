use Rattle.std.proofs.Common.{◌≡◌, sym, ap, subst, ◌∙◌, true, List, map, OnOk, Option, arith}
use Rattle.std.specs.List.{flat_map, list_all}
use Rattle.basics.proofs.Lists.{each_at, all_out}
use Rattle.pddl_terms.specs.declared.trees.Group.{Group}
use Rattle.pddl_names.specs.Declarations.{with_new}
use Rattle.ground_world.specs.World.{Env, GroundAtom}
use Rattle.ground_world.specs.declared.binding.Bound.{Bound}
use Rattle.ground_world.specs.Shown.{env_of, world_of}
use Rattle.grounder.specs.declared.quantified.Quantified.{Quantified}
use Rattle.grounder.proofs.OneByOne.{Few, added_more, added_env, some_binding, envs-taken}
use Rattle.pddl_terms.specs.declared.trees.ConForm.{ConForm}
use Rattle.grounder.specs.Reach.{constraint_fits, quantified_constraint_fits}
use Rattle.grounder.specs.Terms.{constraint_atoms}
use Rattle.grounder.proofs.ConstraintSteps.{fitting-And, fitting-Forall, fitting-Hard, fitting-Preference, fitting-instance, none-mentioned}
use Rattle.grounder.proofs.GoalSteps.{constrained-And, constrained-Forall, constrained-Hard, constrained-Preference}
use Rattle.ground_world.proofs.Heights.{greatest}
use Rattle.grounder.proofs.TreeHeights.{below_greatest, constraint_height, constraint-And, constraint-Forall}
use Rattle.grounder.proofs.mentioned_atoms.+constraints.Goals as goal

pub add_constraint_atoms-add_all_constraint_atoms-requires : goal.add_constraint_atoms-add_all_constraint_atoms-requires
add_constraint_atoms-add_all_constraint_atoms-requires t c =
    let w = world_of c.args.tables.now in
    let a = subst (λ (x : ConForm). constraint_fits w x ≡ true) c.in-And.is c.requires in
    let h = ap constraint_height c.in-And.is ∙ constraint-And c.in-And.field-0 c.in-And.parts in
    let s = ap (λ (l : List ConForm). greatest (map constraint_height l)) c.as_slice.ensures in
    (omega (arith, h, s, c.decreases), subst (λ (cs : List ConForm). list_all (constraint_fits w) cs ≡ true) (sym c.as_slice.ensures) (fitting-And w c.in-And.field-0 c.in-And.parts a))

pub add_constraint_atoms-add_constraint_instances-requires : goal.add_constraint_atoms-add_constraint_instances-requires
add_constraint_atoms-add_constraint_instances-requires t c =
    let w = world_of c.args.tables.now in
    let a = subst (λ (x : ConForm). constraint_fits w x ≡ true) c.in-Forall.is c.requires in
    let b = subst (λ (gs : List Group). quantified_constraint_fits w gs c.in-Forall.body ≡ true) (sym c.as_slice-in-Forall.ensures) (fitting-Forall w c.in-Forall.field-0 c.in-Forall.groups c.in-Forall.body a) in
    let h = ap constraint_height c.in-Forall.is ∙ constraint-Forall c.in-Forall.field-0 c.in-Forall.groups c.in-Forall.body in
    let s = ap constraint_height c.get.ensures in
    (omega (arith, h, s, c.decreases), subst (λ (x : ConForm). quantified_constraint_fits w c.as_slice-in-Forall.result.now x ≡ true) (sym c.get.ensures) b)

pub add_constraint_atoms-add_trajectory_atoms-requires : goal.add_constraint_atoms-add_trajectory_atoms-requires
add_constraint_atoms-add_trajectory_atoms-requires t c =
    let w = world_of c.args.tables.now in
    fitting-Hard w c.in-Hard.trajectory (subst (λ (x : ConForm). constraint_fits w x ≡ true) c.in-Hard.is c.requires)

pub add_constraint_atoms-add_trajectory_atoms-requires-in-Preference : goal.add_constraint_atoms-add_trajectory_atoms-requires-in-Preference
add_constraint_atoms-add_trajectory_atoms-requires-in-Preference t c =
    let w = world_of c.args.tables.now in
    fitting-Preference w c.in-Preference.field-0 c.in-Preference.field-1 c.in-Preference.trajectory (subst (λ (x : ConForm). constraint_fits w x ≡ true) c.in-Preference.is c.requires)

pub add_constraint_atoms-returns-in-And : goal.add_constraint_atoms-returns-in-And
add_constraint_atoms-returns-in-And t c =
    subst (λ (l : List GroundAtom). OnOk c.add_all_constraint_atoms.result (c.add_all_constraint_atoms.new.atoms ≡ with_new c.args.atoms.now l))
    (constrained-And (world_of c.args.tables.now) (env_of c.args.env.now) c.in-And.is c.as_slice.ensures) c.add_all_constraint_atoms.ensures

pub add_constraint_atoms-returns-in-Forall : goal.add_constraint_atoms-returns-in-Forall
add_constraint_atoms-returns-in-Forall t c =
    subst (λ (l : List GroundAtom). OnOk c.add_constraint_instances.result (c.add_constraint_instances.new.atoms ≡ with_new c.args.atoms.now l))
    (constrained-Forall (world_of c.args.tables.now) (env_of c.args.env.now) c.in-Forall.is c.as_slice-in-Forall.ensures c.get.ensures) c.add_constraint_instances.ensures

pub add_constraint_atoms-returns-in-Hard : goal.add_constraint_atoms-returns-in-Hard
add_constraint_atoms-returns-in-Hard t c =
    subst (λ (l : List GroundAtom). OnOk c.add_trajectory_atoms.result (c.add_trajectory_atoms.new.atoms ≡ with_new c.args.atoms.now l))
    (constrained-Hard (world_of c.args.tables.now) (env_of c.args.env.now) c.in-Hard.is) c.add_trajectory_atoms.ensures

pub add_constraint_atoms-returns-in-Preference : goal.add_constraint_atoms-returns-in-Preference
add_constraint_atoms-returns-in-Preference t c =
    subst (λ (l : List GroundAtom). OnOk c.add_trajectory_atoms-in-Preference.result (c.add_trajectory_atoms-in-Preference.new.atoms ≡ with_new c.args.atoms.now l))
    (constrained-Preference (world_of c.args.tables.now) (env_of c.args.env.now) c.in-Preference.is) c.add_trajectory_atoms-in-Preference.ensures

pub add_all_constraint_atoms-add_constraint_atoms-requires : goal.add_all_constraint_atoms-add_constraint_atoms-requires
add_all_constraint_atoms-add_constraint_atoms-requires t c =
    let w = world_of c.args.tables.now in
    let below = below_greatest constraint_height c.args.trees.now c.loop-tree.tree-index c.tree-item.result c.loop-tree-test.true c.tree-item.is in (
      omega (arith, below, c.decreases),
      subst (λ (x : ConForm). constraint_fits w x ≡ true) (sym c.tree-item.is)
          (each_at (λ (x : ConForm). constraint_fits w x ≡ true) c.args.trees.now c.loop-tree.tree-index c.tree-item.result c.loop-tree-test.true (all_out (constraint_fits w) c.args.trees.now c.requires)),
    )

pub add_all_constraint_atoms-loop-tree-preserved : goal.add_all_constraint_atoms-loop-tree-preserved
add_all_constraint_atoms-loop-tree-preserved t c =
    added_more c.args.trees.now c.loop-tree.tree-index c.tree-item.result c.loop-tree-test.true c.tree-item.is
    (constraint_atoms (world_of c.args.tables.now) (env_of c.args.env.now)) c.args.atoms.now c.loop-tree.atoms c.add_constraint_atoms.new.atoms c.loop-tree.invariant c.in_ok-add_constraint_atoms.ensures

pub add_constraint_instances-add_constraint_atoms-requires : goal.add_constraint_instances-add_constraint_atoms-requires
add_constraint_instances-add_constraint_atoms-requires t c =
    let w = world_of c.args.tables.now in
    let are = subst (λ (o : Option Quantified). Few w c.args.groups.now o) c.in-Some.is c.in_ok-quantified.ensures in
    let p = some_binding w c.in-Some.quantified (env_of c.args.env.now) c.args.groups.now (are (env_of c.args.env.now)) c.loop-number.number c.loop-number-test.true in
    (omega (arith, c.decreases), fitting-instance w c.args.groups.now c.args.body.now p c.requires)

pub add_constraint_instances-loop-number-preserved : goal.add_constraint_instances-loop-number-preserved
add_constraint_instances-loop-number-preserved t c =
    let w = world_of c.args.tables.now in
    let b = c.args.body.now in
    added_env c.in-Some.quantified (env_of c.args.env.now) (env_of c.in_ok-inner-in-Some.inner) c.loop-number.number c.loop-number-test.true c.in_ok-inner-in-Some.ensures
    (λ e. constraint_atoms w e b) (constraint_atoms w (env_of c.as_slice.result.now) b) c.args.atoms.now c.loop-number.atoms c.add_constraint_atoms.new.atoms c.loop-number.invariant
    (ap (λ (l : List Bound). constraint_atoms w (env_of l) b) c.as_slice.ensures) c.in_ok-add_constraint_atoms-in-Some.ensures

pub add_constraint_instances-returns-after-loop-number : goal.add_constraint_instances-returns-after-loop-number
add_constraint_instances-returns-after-loop-number t c =
    let w = world_of c.args.tables.now in
    let are = subst (λ (o : Option Quantified). Few w c.args.groups.now o) c.in-Some.is c.in_ok-quantified.ensures in
    c.loop-number.invariant
    ∙ ap (λ (es : List Env). with_new c.args.atoms.now (flat_map (λ e. constraint_atoms w e c.args.body.now) es))
    (envs-taken w c.in-Some.quantified (env_of c.args.env.now) c.args.groups.now (are (env_of c.args.env.now)) c.loop-number.number c.loop-number-test.false)

pub add_constraint_instances-returns-in-None : goal.add_constraint_instances-returns-in-None
add_constraint_instances-returns-in-None t c =
    let w = world_of c.args.tables.now in
    let many = subst (λ (o : Option Quantified). Few w c.args.groups.now o) c.in-None.is c.in_ok-quantified.ensures in
    ap (with_new c.args.atoms.now) (sym (none-mentioned w (env_of c.args.env.now) c.args.groups.now c.args.body.now many c.requires))
