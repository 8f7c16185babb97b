use Rattle.std.proofs.Common.{◌≡◌, sym, ap, subst, ◌∙◌, OnOk, List, [], ◌++◌, take, append_assoc}
use Rattle.std.specs.List.{flat_map}
use Rattle.std.proofs.lemmas.List.{append-nil, map-append}
use Rattle.std.proofs.lemmas.List.Folds.{flat_map-map}
use Rattle.pddl_terms.specs.declared.trees.EffTree.{EffTree}
use Rattle.ground_world.specs.declared.changes.Stage.{Stage}
use Rattle.ground_world.specs.Changes.{Change, Staged, staged, effect_parts}
use Rattle.ground_world.specs.ShownChanges.{changes_of}
use Rattle.ground_world.proofs.Walks as walk
use Rattle.ground_world.proofs.Steps.{parts_more}
use Rattle.ground_world.proofs.changes.+effects.Goals as goal

-- an effect of a form without parts adds nothing
nothing : (s : Stage) (old : List (Staged Change)) (t u : EffTree) → t ≡ u → effect_parts u ≡ [] → old ≡ old ++ staged s (effect_parts t)
nothing s old t u e none = sym (append-nil old) ∙ ap (λ l. old ++ staged s l) (sym (ap effect_parts e ∙ none))

pub push_effect-returns-in-Empty : goal.push_effect-returns-in-Empty
push_effect-returns-in-Empty t c =
    nothing c.args.stage (changes_of c.args.out.now) c.args.tree.now _ c.in-Empty.is (walk.effect_parts-Empty c.in-Empty.field-0)

pub push_effect-returns-in-LeftOut : goal.push_effect-returns-in-LeftOut
push_effect-returns-in-LeftOut t c =
    nothing c.args.stage (changes_of c.args.out.now) c.args.tree.now _ c.in-LeftOut.is (walk.effect_parts-LeftOut c.in-LeftOut.field-0)

pub push_effect-returns-in-And : goal.push_effect-returns-in-And
push_effect-returns-in-And t c =
    subst (λ (l : List Change). OnOk c.push_effects.result (changes_of c.push_effects.new.out ≡ changes_of c.args.out.now ++ staged c.args.stage l))
    (ap (flat_map effect_parts) c.as_slice.ensures ∙ sym (flat_map-map (λ p. p) effect_parts c.in-And.parts)
    ∙ sym (ap effect_parts c.in-And.is ∙ walk.effect_parts-And c.in-And.field-0 c.in-And.parts)) c.push_effects.ensures

pub push_effect-returns-in-Add : goal.push_effect-returns-in-Add
push_effect-returns-in-Add t c =
    subst (λ (l : List Change). OnOk c.push.result (changes_of c.push.new.out ≡ changes_of c.args.out.now ++ staged c.args.stage l))
    (sym (ap effect_parts c.in-Add.is ∙ walk.effect_parts-Add c.in-Add.atom)) c.push.ensures

pub push_effect-returns-in-Delete : goal.push_effect-returns-in-Delete
push_effect-returns-in-Delete t c =
    subst (λ (l : List Change). OnOk c.push_deleted.result (changes_of c.push_deleted.new.out ≡ changes_of c.args.out.now ++ staged c.args.stage l))
    (sym (ap effect_parts c.in-Delete.is ∙ walk.effect_parts-Delete c.in-Delete.field-0 c.in-Delete.call)) c.push_deleted.ensures

pub push_effect-returns-in-Change : goal.push_effect-returns-in-Change
push_effect-returns-in-Change t c =
    subst (λ (l : List Change). OnOk c.push_moved.result (changes_of c.push_moved.new.out ≡ changes_of c.args.out.now ++ staged c.args.stage l))
    (sym (ap effect_parts c.in-Change.is ∙ walk.effect_parts-Change c.in-Change.field-0 c.in-Change.kind c.in-Change.call c.in-Change.amount)) c.push_moved.ensures

pub push_effects-loop-tree-preserved : goal.push_effects-loop-tree-preserved
push_effects-loop-tree-preserved t c =
    c.in_ok-push_effect.ensures ∙ ap (λ l. l ++ staged c.args.stage (effect_parts c.tree-item.result)) c.loop-tree.invariant
    ∙ append_assoc (changes_of c.args.out.now) _ _
    ∙ ap (λ l. changes_of c.args.out.now ++ l) (sym (map-append _ (flat_map effect_parts (take c.loop-tree.tree-index c.args.trees.now)) (effect_parts c.tree-item.result))
    ∙ ap (staged c.args.stage) (sym (parts_more effect_parts c.args.trees.now c.loop-tree.tree-index c.tree-item.result c.loop-tree-test.true c.tree-item.is)))
