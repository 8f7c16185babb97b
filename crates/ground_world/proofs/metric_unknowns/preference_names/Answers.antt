use Rattle.std.proofs.Common.{◌≡◌, ◌∙◌, ap, ap₂, ◌+◌, ◌≤◌, ◌++◌, Option, List, [], map, length, arith}
use Rattle.std.specs.List.{flat_map}
use Rattle.pddl_terms.specs.declared.trees.SoftTree.{SoftTree}
use Rattle.pddl_terms.specs.declared.trees.Trajectory.{Trajectory}
use Rattle.pddl_names.specs.Declarations.{Text, with_new}
use Rattle.ground_world.specs.Leaves.{Leaf, Named, preference_name}
use Rattle.ground_world.specs.ShownLeaves.{text_of}
use Rattle.ground_world.specs.declared.leaves.GoalPreference.{GoalPreference}
use Rattle.ground_world.specs.declared.leaves.ConstraintLeaf.{ConstraintLeaf}
use Rattle.ground_world.proofs.NewNames.{all-names, all-length}
use Rattle.ground_world.proofs.metric_unknowns.preference_names.Goals as goal

pub returns-clause-value : goal.returns-clause-value
returns-clause-value c =
    all-names c.in_ok-of_goal.of_goal c.in_ok-trails.trails c.add_preferences.new.names c.add_constraints.new.names
    (c.in_ok-add_preferences.ensures ∙ ap₂ (λ (ns : List Text) (ps : List GoalPreference). with_new ns (map (λ p. p.name.now) ps)) c.new-names.ensures c.as_slice-3.ensures)
    (c.in_ok-add_constraints.ensures ∙ ap (λ (cs : List ConstraintLeaf). with_new c.add_preferences.new.names (flat_map (λ l. preference_name (text_of l.name)) cs)) c.as_slice-4.ensures)
    ∙ ap₂ (λ (ps : List (Leaf (Named SoftTree))) (cs : List (Leaf (Option Text × Trajectory))). with_new [] (map (λ l. l.leaf.name) ps ++ flat_map (λ l. preference_name l.leaf.0) cs)) c.in_ok-of_goal.ensures c.in_ok-trails.ensures

pub returns-clause-few : goal.returns-clause-few
returns-clause-few c =
    let ps : List GoalPreference = c.in_ok-of_goal.of_goal in
    let cs : List ConstraintLeaf = c.in_ok-trails.trails in
    let bound : length c.add_constraints.new.names ≤ length ps + length cs =
    all-length ps cs c.add_preferences.new.names c.add_constraints.new.names
    (c.in_ok-add_preferences.ensures ∙ ap₂ (λ (ns : List Text) (ps : List GoalPreference). with_new ns (map (λ p. p.name.now) ps)) c.new-names.ensures c.as_slice-3.ensures)
    (c.in_ok-add_constraints.ensures ∙ ap (λ (cs : List ConstraintLeaf). with_new c.add_preferences.new.names (flat_map (λ l. preference_name (text_of l.name)) cs)) c.as_slice-4.ensures) in
    let a : length c.as_slice.result.now ≡ length ps = ap length c.as_slice.ensures in
    let b : length c.as_slice-2.result.now ≡ length cs = ap length c.as_slice-2.ensures in
    omega (arith, c.saturating_add.ensures, c.in_ok-few.ensures)
