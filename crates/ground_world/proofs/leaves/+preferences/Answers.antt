use Rattle.std.proofs.Common.{◌≡◌, sym, ap, ap₂, subst, ◌∙◌, OnOk, List, [], ◌∷◌, ◌++◌, map, take, append_assoc}
use Rattle.std.specs.List.{flat_map}
use Rattle.std.proofs.lemmas.List.{append-nil, map-append, take_all}
use Rattle.std.proofs.lemmas.List.Folds.{flat_map-map}
use Rattle.pddl_terms.specs.declared.trees.Group.{Group}
use Rattle.pddl_terms.specs.declared.trees.GoalTree.{GoalTree}
use Rattle.pddl_terms.specs.declared.trees.SoftTree.{SoftTree}
use Rattle.pddl_names.specs.Declarations.{Text}
use Rattle.ground_world.specs.Leaves.{Leaf, Named, name_or_anonymous, goal_preferences}
use Rattle.ground_world.specs.Insides.{inside}
use Rattle.ground_world.specs.ShownLeaves.{lists_of, preferences_of}
use Rattle.ground_world.proofs.Insides.{inside-within, inside-bare}
use Rattle.ground_world.proofs.Walks as walk
use Rattle.ground_world.proofs.Steps.{parts_more}
use Rattle.ground_world.proofs.leaves.+preferences.Goals as goal

pub push_preferences-returns-in-Condition : goal.push_preferences-returns-in-Condition
push_preferences-returns-in-Condition t c =
    sym (append-nil (preferences_of c.args.out.now))
    ∙ ap (λ (l : List (Leaf (Named SoftTree))). preferences_of c.args.out.now ++ map (inside (lists_of c.args.around.now)) l)
    (sym (ap goal_preferences c.in-Condition.is ∙ walk.goal_preferences-Condition c.in-Condition.field-0))

pub push_preferences-returns-in-And : goal.push_preferences-returns-in-And
push_preferences-returns-in-And t c =
    subst (λ (l : List (Leaf (Named SoftTree))). OnOk c.push_all_preferences.result (preferences_of c.push_all_preferences.new.out ≡ preferences_of c.args.out.now ++ map (inside (lists_of c.args.around.now)) l))
    (ap (flat_map goal_preferences) c.as_slice.ensures ∙ sym (flat_map-map (λ p. p) goal_preferences c.in-And.parts)
    ∙ sym (ap goal_preferences c.in-And.is ∙ walk.goal_preferences-And c.in-And.field-0 c.in-And.parts)) c.push_all_preferences.ensures

pub push_all_preferences-loop-part-preserved : goal.push_all_preferences-loop-part-preserved
push_all_preferences-loop-part-preserved t c =
    let own = map {B = Leaf (Named SoftTree)} (inside (lists_of c.args.around.now)) in
    c.in_ok-push_preferences.ensures ∙ ap (λ l. l ++ own (goal_preferences c.part-item.result)) c.loop-part.invariant
    ∙ append_assoc (preferences_of c.args.out.now) _ _
    ∙ ap (λ l. preferences_of c.args.out.now ++ l) (sym (map-append (inside (lists_of c.args.around.now)) (flat_map goal_preferences (take c.loop-part.part-index c.args.goals.now)) (goal_preferences c.part-item.result))
    ∙ ap own (sym (parts_more goal_preferences c.args.goals.now c.loop-part.part-index c.part-item.result c.loop-part-test.true c.part-item.is)))

pub push_preferences-returns-in_ok-lists-in-Forall : goal.push_preferences-returns-in_ok-lists-in-Forall
push_preferences-returns-in_ok-lists-in-Forall t c =
    let own = λ (gs : List (List Group)) (g : GoalTree). map {B = Leaf (Named SoftTree)} (inside gs) (goal_preferences g) in
    subst (λ (l : List (Leaf (Named SoftTree))). OnOk c.push_preferences.result (preferences_of c.push_preferences.new.out ≡ preferences_of c.args.out.now ++ l))
    (ap₂ own (ap lists_of c.as_slice-inner.ensures ∙ c.in_ok-lists-in-Forall.ensures ∙ ap (λ (gs : List Group). lists_of c.args.around.now ++ (gs ∷ [])) c.as_slice-in-Forall.ensures) c.get.ensures
    ∙ inside-within (lists_of c.args.around.now) c.in-Forall.groups (goal_preferences c.in-Forall.body)
    ∙ ap (map (inside (lists_of c.args.around.now))) (sym (ap goal_preferences c.in-Forall.is ∙ walk.goal_preferences-Forall c.in-Forall.field-0 c.in-Forall.groups c.in-Forall.body)))
    c.push_preferences.ensures

pub push_preferences-returns-in-Preference : goal.push_preferences-returns-in-Preference
push_preferences-returns-in-Preference t c =
    let own = λ (n : Text). let leaf : Leaf (Named SoftTree) = record { around = lists_of c.args.around.now; leaf = record { name = n; body = c.in-Preference.body } } in leaf ∷ [] in
    let leaf : Named SoftTree = record { name = name_or_anonymous c.in-Preference.name; body = c.in-Preference.body } in
    subst (λ (l : List (Leaf (Named SoftTree))). OnOk c.push_preference.result (preferences_of c.push_preference.new.out ≡ preferences_of c.args.out.now ++ l))
    (ap own c.name_or_anonymous.ensures ∙ inside-bare (lists_of c.args.around.now) leaf
    ∙ ap (map (inside (lists_of c.args.around.now))) (sym (ap goal_preferences c.in-Preference.is ∙ walk.goal_preferences-Preference c.in-Preference.field-0 c.in-Preference.name c.in-Preference.body)))
    c.push_preference.ensures

pub push_all_preferences-loop-part-init : goal.push_all_preferences-loop-part-init
push_all_preferences-loop-part-init t c = sym (append-nil _)

pub push_all_preferences-returns : goal.push_all_preferences-returns
push_all_preferences-returns t c =
    c.loop-part.invariant
    ∙ ap (λ (gs : List GoalTree). preferences_of c.args.out.now ++ map (inside (lists_of c.args.around.now)) (flat_map goal_preferences gs))
    (take_all c.loop-part.part-index c.args.goals.now c.loop-part-test.false)
