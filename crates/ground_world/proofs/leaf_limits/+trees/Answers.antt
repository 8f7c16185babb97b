use Rattle.std.proofs.Common.{sym, ap, ap₂, ◌∙◌, ℕ, ◌*◌, Bool, List, Option, Some, None}
use Rattle.std.specs.List.{list_all}
use Rattle.std.proofs.lemmas.List.Folds.{flat_map-map}
use Rattle.pddl_terms.specs.declared.trees.Group.{Group}
use Rattle.pddl_terms.specs.declared.trees.ConForm.{ConForm}
use Rattle.pddl_terms.specs.declared.trees.Trajectory.{Trajectory}
use Rattle.pddl_names.specs.Declarations.{Text}
use Rattle.ground_world.specs.World.{World, columns}
use Rattle.ground_world.specs.Bindings.{choice_count}
use Rattle.ground_world.specs.Leaves.{name_or_anonymous, constraint_leaves}
use Rattle.ground_world.specs.Counts.{fit_limits, trajectory_count}
use Rattle.ground_world.specs.Counting.{constraint_fits}
use Rattle.ground_world.specs.Shown.{world_of}
use Rattle.ground_world.proofs.Walks as walk
use Rattle.ground_world.proofs.LeafLimits.{list_all-flat_map, one-more, one-fails, all-looked, fits-bare, fits-within, found-same, found-inside}
use Rattle.ground_world.proofs.leaf_limits.+trees.Goals as goal

-- all leaves of a list of trees
abbrev each : World → ℕ → List ConForm → Bool
each w n ts = list_all (λ t. list_all (constraint_fits w n) (constraint_leaves t)) ts

pub constraint_fits-returns-in-And : goal.constraint_fits-returns-in-And
constraint_fits-returns-in-And t c =
    let w = world_of c.args.tables.now in
    found-same c.all_constraints_fit.result (λ n. each w n c.as_slice.result.now) (λ n. list_all (constraint_fits w n) (constraint_leaves c.args.tree.now)) c.args.outer
    (λ n. ap (each w n) c.as_slice.ensures ∙ sym (list_all-flat_map (constraint_fits w n) constraint_leaves c.in-And.parts)
    ∙ ap (list_all (constraint_fits w n))
    (sym (flat_map-map (λ p. p) constraint_leaves c.in-And.parts) ∙ sym (ap constraint_leaves c.in-And.is ∙ walk.constraint_leaves-And c.in-And.field-0 c.in-And.parts)))
    c.all_constraints_fit.ensures

pub constraint_fits-returns-in_ok-inner-in-Forall : goal.constraint_fits-returns-in_ok-inner-in-Forall
constraint_fits-returns-in_ok-inner-in-Forall t c =
    let w = world_of c.args.tables.now in
    found-inside c.constraint_fits.result (λ n. list_all (constraint_fits w n) (constraint_leaves c.get.result.now)) (λ n. list_all (constraint_fits w n) (constraint_leaves c.args.tree.now))
    c.args.outer c.in_ok-inner-in-Forall.inner (λ n. n * choice_count (columns w c.as_slice-in-Forall.result.now)) c.in_ok-inner-in-Forall.ensures
    (λ n. ap₂ (λ (gs : List Group) (b : ConForm). list_all (constraint_fits w (n * choice_count (columns w gs))) (constraint_leaves b)) c.as_slice-in-Forall.ensures c.get.ensures
    ∙ sym (fits-within w (λ (p : Option Text × Trajectory). trajectory_count w p.1) n c.in-Forall.groups (constraint_leaves c.in-Forall.body))
    ∙ ap (list_all (constraint_fits w n)) (sym (ap constraint_leaves c.in-Forall.is ∙ walk.constraint_leaves-Forall c.in-Forall.field-0 c.in-Forall.groups c.in-Forall.body)))
    c.constraint_fits.ensures

pub constraint_fits-returns-in-Hard : goal.constraint_fits-returns-in-Hard
constraint_fits-returns-in-Hard t c =
    let w = world_of c.args.tables.now in
    let leaf : Option Text × Trajectory = (None, c.in-Hard.trajectory) in
    found-same c.trajectory_fits.result (λ n. fit_limits n (trajectory_count w c.in-Hard.trajectory)) (λ n. list_all (constraint_fits w n) (constraint_leaves c.args.tree.now)) c.args.outer
    (λ n. sym (fits-bare w (λ (p : Option Text × Trajectory). trajectory_count w p.1) n leaf) ∙ ap (list_all (constraint_fits w n)) (sym (ap constraint_leaves c.in-Hard.is ∙ walk.constraint_leaves-Hard c.in-Hard.trajectory)))
    c.trajectory_fits.ensures

pub constraint_fits-returns-in-Preference : goal.constraint_fits-returns-in-Preference
constraint_fits-returns-in-Preference t c =
    let w = world_of c.args.tables.now in
    let leaf : Option Text × Trajectory = (Some (name_or_anonymous c.in-Preference.field-1), c.in-Preference.trajectory) in
    found-same c.trajectory_fits-in-Preference.result (λ n. fit_limits n (trajectory_count w c.in-Preference.trajectory)) (λ n. list_all (constraint_fits w n) (constraint_leaves c.args.tree.now)) c.args.outer
    (λ n. sym (fits-bare w (λ (p : Option Text × Trajectory). trajectory_count w p.1) n leaf) ∙ ap (list_all (constraint_fits w n)) (sym (ap constraint_leaves c.in-Preference.is ∙ walk.constraint_leaves-Preference c.in-Preference.field-0 c.in-Preference.field-1 c.in-Preference.trajectory)))
    c.trajectory_fits-in-Preference.ensures

pub all_constraints_fit-loop-tree-preserved : goal.all_constraints_fit-loop-tree-preserved
all_constraints_fit-loop-tree-preserved t c = λ n h.
    let w = world_of c.args.tables.now in
    one-more (λ (x : ConForm). list_all (constraint_fits w n) (constraint_leaves x)) c.args.trees.now c.loop-tree.tree-index c.tree-item.result c.loop-tree-test.true c.tree-item.is
    (c.loop-tree.invariant n h) (sym (c.in_ok-constraint_fits.ensures n h) ∙ c.if-not-branch.false)

pub all_constraints_fit-returns-then-not-branch : goal.all_constraints_fit-returns-then-not-branch
all_constraints_fit-returns-then-not-branch t c = λ n h.
    let w = world_of c.args.tables.now in
    one-fails (λ (x : ConForm). list_all (constraint_fits w n) (constraint_leaves x)) c.args.trees.now c.loop-tree.tree-index c.tree-item.result c.loop-tree-test.true c.tree-item.is
    (sym (c.in_ok-constraint_fits.ensures n h) ∙ c.if-not-branch.true)

pub all_constraints_fit-returns : goal.all_constraints_fit-returns
all_constraints_fit-returns t c = λ n h.
    let w = world_of c.args.tables.now in
    all-looked (λ (x : ConForm). list_all (constraint_fits w n) (constraint_leaves x)) c.args.trees.now c.loop-tree.tree-index c.loop-tree-test.false (c.loop-tree.invariant n h)
