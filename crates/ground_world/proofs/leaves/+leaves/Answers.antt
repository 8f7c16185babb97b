use Rattle.std.proofs.Common.{◌≡◌, sym, ap, ap₂, subst, ◌∙◌, OnOk, Option, Some, None, List, [], ◌∷◌, ◌++◌, map, take, append_assoc}
use Rattle.std.specs.List.{flat_map}
use Rattle.std.proofs.lemmas.List.{append-nil, map-append, take_all}
use Rattle.std.proofs.lemmas.List.Folds.{flat_map-map}
use Rattle.pddl_terms.specs.declared.trees.Group.{Group}
use Rattle.pddl_terms.specs.declared.trees.ConForm.{ConForm}
use Rattle.pddl_terms.specs.declared.trees.Trajectory.{Trajectory}
use Rattle.pddl_names.specs.Declarations.{Text}
use Rattle.ground_world.specs.Leaves.{Leaf, name_or_anonymous, constraint_leaves}
use Rattle.ground_world.specs.Insides.{inside}
use Rattle.ground_world.specs.ShownLeaves.{lists_of, constraints_of}
use Rattle.ground_world.proofs.Insides.{inside-within, inside-bare}
use Rattle.ground_world.proofs.Walks as walk
use Rattle.ground_world.proofs.Steps.{parts_more}
use Rattle.ground_world.proofs.leaves.+leaves.Goals as goal

pub push_constraints-returns-in-And : goal.push_constraints-returns-in-And
push_constraints-returns-in-And t c =
    subst (λ (l : List (Leaf (Option Text × Trajectory))). OnOk c.push_all_constraints.result (constraints_of c.push_all_constraints.new.out ≡ constraints_of c.args.out.now ++ map (inside (lists_of c.args.around.now)) l))
    (ap (flat_map constraint_leaves) c.as_slice.ensures ∙ sym (flat_map-map (λ p. p) constraint_leaves c.in-And.parts)
    ∙ sym (ap constraint_leaves c.in-And.is ∙ walk.constraint_leaves-And c.in-And.field-0 c.in-And.parts)) c.push_all_constraints.ensures

pub push_all_constraints-loop-tree-preserved : goal.push_all_constraints-loop-tree-preserved
push_all_constraints-loop-tree-preserved t c =
    let own = map {B = Leaf (Option Text × Trajectory)} (inside (lists_of c.args.around.now)) in
    c.in_ok-push_constraints.ensures ∙ ap (λ l. l ++ own (constraint_leaves c.tree-item.result)) c.loop-tree.invariant
    ∙ append_assoc (constraints_of c.args.out.now) _ _
    ∙ ap (λ l. constraints_of c.args.out.now ++ l) (sym (map-append (inside (lists_of c.args.around.now)) (flat_map constraint_leaves (take c.loop-tree.tree-index c.args.trees.now)) (constraint_leaves c.tree-item.result))
    ∙ ap own (sym (parts_more constraint_leaves c.args.trees.now c.loop-tree.tree-index c.tree-item.result c.loop-tree-test.true c.tree-item.is)))

pub push_constraints-returns-in_ok-lists-in-Forall : goal.push_constraints-returns-in_ok-lists-in-Forall
push_constraints-returns-in_ok-lists-in-Forall t c =
    let own = λ (gs : List (List Group)) (g : ConForm). map {B = Leaf (Option Text × Trajectory)} (inside gs) (constraint_leaves g) in
    subst (λ (l : List (Leaf (Option Text × Trajectory))). OnOk c.push_constraints.result (constraints_of c.push_constraints.new.out ≡ constraints_of c.args.out.now ++ l))
    (ap₂ own (ap lists_of c.as_slice-inner.ensures ∙ c.in_ok-lists-in-Forall.ensures ∙ ap (λ (gs : List Group). lists_of c.args.around.now ++ (gs ∷ [])) c.as_slice-in-Forall.ensures) c.get.ensures
    ∙ inside-within (lists_of c.args.around.now) c.in-Forall.groups (constraint_leaves c.in-Forall.body)
    ∙ ap (map (inside (lists_of c.args.around.now))) (sym (ap constraint_leaves c.in-Forall.is ∙ walk.constraint_leaves-Forall c.in-Forall.field-0 c.in-Forall.groups c.in-Forall.body)))
    c.push_constraints.ensures

pub push_constraints-returns-in-Hard : goal.push_constraints-returns-in-Hard
push_constraints-returns-in-Hard t c =
    let leaf : Option Text × Trajectory = (None, c.in-Hard.trajectory) in
    subst (λ (l : List (Leaf (Option Text × Trajectory))). OnOk c.push_leaf.result (constraints_of c.push_leaf.new.out ≡ constraints_of c.args.out.now ++ l))
    (inside-bare (lists_of c.args.around.now) leaf
    ∙ ap (map (inside (lists_of c.args.around.now))) (sym (ap constraint_leaves c.in-Hard.is ∙ walk.constraint_leaves-Hard c.in-Hard.trajectory)))
    c.push_leaf.ensures

pub push_constraints-returns-in-Preference : goal.push_constraints-returns-in-Preference
push_constraints-returns-in-Preference t c =
    let own = λ (n : Text). let leaf : Leaf (Option Text × Trajectory) = record { around = lists_of c.args.around.now; leaf = (Some n, c.in-Preference.trajectory) } in leaf ∷ [] in
    let leaf : Option Text × Trajectory = (Some (name_or_anonymous c.in-Preference.name), c.in-Preference.trajectory) in
    subst (λ (l : List (Leaf (Option Text × Trajectory))). OnOk c.push_leaf-in-Preference.result (constraints_of c.push_leaf-in-Preference.new.out ≡ constraints_of c.args.out.now ++ l))
    (ap own c.name_or_anonymous.ensures ∙ inside-bare (lists_of c.args.around.now) leaf
    ∙ ap (map (inside (lists_of c.args.around.now))) (sym (ap constraint_leaves c.in-Preference.is ∙ walk.constraint_leaves-Preference c.in-Preference.field-0 c.in-Preference.name c.in-Preference.trajectory)))
    c.push_leaf-in-Preference.ensures

pub push_all_constraints-loop-tree-init : goal.push_all_constraints-loop-tree-init
push_all_constraints-loop-tree-init t c = sym (append-nil _)

pub push_all_constraints-returns : goal.push_all_constraints-returns
push_all_constraints-returns t c =
    c.loop-tree.invariant
    ∙ ap (λ (ts : List ConForm). constraints_of c.args.out.now ++ map (inside (lists_of c.args.around.now)) (flat_map constraint_leaves ts))
    (take_all c.loop-tree.tree-index c.args.trees.now c.loop-tree-test.false)
