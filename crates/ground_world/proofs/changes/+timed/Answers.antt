use Rattle.std.proofs.Common.{◌≡◌, sym, ap, subst, ◌∙◌, OnOk, List, [], ◌++◌, append_assoc}
use Rattle.std.specs.List.{flat_map}
use Rattle.std.proofs.lemmas.List.{append-nil}
use Rattle.std.proofs.lemmas.List.Folds.{flat_map-map}
use Rattle.pddl_terms.specs.declared.trees.TimedEff.{TimedEff}
use Rattle.ground_world.specs.Changes.{Change, Staged, timed_effect_parts}
use Rattle.ground_world.specs.ShownChanges.{changes_of}
use Rattle.ground_world.proofs.Walks as walk
use Rattle.ground_world.proofs.Steps.{parts_more}
use Rattle.ground_world.proofs.changes.+timed.Goals as goal

-- an effect of a form without parts adds nothing
nothing : (old : List (Staged Change)) (t u : TimedEff) → t ≡ u → timed_effect_parts u ≡ [] → old ≡ old ++ timed_effect_parts t
nothing old t u e none = sym (append-nil old) ∙ ap (λ l. old ++ l) (sym (ap timed_effect_parts e ∙ none))

pub push_timed_effect-returns-in-Empty : goal.push_timed_effect-returns-in-Empty
push_timed_effect-returns-in-Empty t c =
    nothing (changes_of c.args.out.now) c.args.tree.now _ c.in-Empty.is (walk.timed_effect_parts-Empty c.in-Empty.field-0)

pub push_timed_effect-returns-in-LeftOut : goal.push_timed_effect-returns-in-LeftOut
push_timed_effect-returns-in-LeftOut t c =
    nothing (changes_of c.args.out.now) c.args.tree.now _ c.in-LeftOut.is (walk.timed_effect_parts-LeftOut c.in-LeftOut.field-0)

pub push_timed_effect-returns-in-And : goal.push_timed_effect-returns-in-And
push_timed_effect-returns-in-And t c =
    subst (λ (l : List (Staged Change)). OnOk c.push_timed_effects.result (changes_of c.push_timed_effects.new.out ≡ changes_of c.args.out.now ++ l))
    (ap (flat_map timed_effect_parts) c.as_slice.ensures ∙ sym (flat_map-map (λ p. p) timed_effect_parts c.in-And.parts)
    ∙ sym (ap timed_effect_parts c.in-And.is ∙ walk.timed_effect_parts-And c.in-And.field-0 c.in-And.parts)) c.push_timed_effects.ensures

pub push_timed_effect-returns-in-AtStart : goal.push_timed_effect-returns-in-AtStart
push_timed_effect-returns-in-AtStart t c =
    subst (λ (l : List (Staged Change)). OnOk c.push_effect.result (changes_of c.push_effect.new.out ≡ changes_of c.args.out.now ++ l))
    (sym (ap timed_effect_parts c.in-AtStart.is ∙ walk.timed_effect_parts-AtStart c.in-AtStart.field-0 c.in-AtStart.effect)) c.push_effect.ensures

pub push_timed_effect-returns-in-AtEnd : goal.push_timed_effect-returns-in-AtEnd
push_timed_effect-returns-in-AtEnd t c =
    subst (λ (l : List (Staged Change)). OnOk c.push_effect-in-AtEnd.result (changes_of c.push_effect-in-AtEnd.new.out ≡ changes_of c.args.out.now ++ l))
    (sym (ap timed_effect_parts c.in-AtEnd.is ∙ walk.timed_effect_parts-AtEnd c.in-AtEnd.field-0 c.in-AtEnd.effect)) c.push_effect-in-AtEnd.ensures

pub push_timed_effect-returns-in-Rate : goal.push_timed_effect-returns-in-Rate
push_timed_effect-returns-in-Rate t c =
    subst (λ (l : List (Staged Change)). OnOk c.push_flow.result (changes_of c.push_flow.new.out ≡ changes_of c.args.out.now ++ l))
    (sym (ap timed_effect_parts c.in-Rate.is ∙ walk.timed_effect_parts-Rate c.in-Rate.field-0 c.in-Rate.trend c.in-Rate.call c.in-Rate.rate)) c.push_flow.ensures

pub push_timed_effects-loop-tree-preserved : goal.push_timed_effects-loop-tree-preserved
push_timed_effects-loop-tree-preserved t c =
    c.in_ok-push_timed_effect.ensures ∙ ap (λ l. l ++ timed_effect_parts c.tree-item.result) c.loop-tree.invariant
    ∙ append_assoc (changes_of c.args.out.now) _ _
    ∙ ap (λ l. changes_of c.args.out.now ++ l) (sym (parts_more timed_effect_parts c.args.trees.now c.loop-tree.tree-index c.tree-item.result c.loop-tree-test.true c.tree-item.is))
