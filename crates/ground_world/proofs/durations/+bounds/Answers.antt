use Rattle.std.proofs.Common.{◌≡◌, refl, sym, ap, subst, ◌∙◌, ◌+◌, OnOk, Bool, true, false, List, [], ◌∷◌, ◌++◌, map, append_assoc}
use Rattle.std.specs.List.{flat_map}
use Rattle.std.proofs.lemmas.List.{append-nil, map-append}
use Rattle.pddl_terms.specs.declared.trees.DurTree.{DurTree}
use Rattle.ground_world.specs.Conditions.{DurationBound, duration_bounds}
use Rattle.ground_world.specs.ShownBounds.{bounds_of}
use Rattle.ground_world.proofs.Walks as walk
use Rattle.ground_world.proofs.Steps.{parts_more}
use Rattle.ground_world.proofs.durations.+bounds.Goals as goal

in_parts : (at_end : Bool) (ts : List DurTree) → flat_map {X = Bool → List DurationBound} (λ part. part at_end) (map (λ c e. duration_bounds e c) ts) ≡ flat_map (duration_bounds at_end) ts
in_parts at_end [] = refl
in_parts at_end (t ∷ ts) = ap (λ l. duration_bounds at_end t ++ l) (in_parts at_end ts)

pub push_bounds-returns-in-And : goal.push_bounds-returns-in-And
push_bounds-returns-in-And t c =
    subst (λ (l : List DurationBound). OnOk c.push_all_bounds.result (bounds_of c.push_all_bounds.new.out ≡ bounds_of c.args.out.now ++ l))
    (ap (flat_map (duration_bounds c.args.at_end)) c.as_slice.ensures ∙ sym (in_parts c.args.at_end c.in-And.parts)
    ∙ sym (ap (duration_bounds c.args.at_end) c.in-And.is ∙ walk.duration_bounds-And c.args.at_end c.in-And.field-0 c.in-And.parts)) c.push_all_bounds.ensures

pub push_bounds-returns-in-AtStart : goal.push_bounds-returns-in-AtStart
push_bounds-returns-in-AtStart t c =
    subst (λ (l : List DurationBound). OnOk c.push_bounds.result (bounds_of c.push_bounds.new.out ≡ bounds_of c.args.out.now ++ l))
    (ap (duration_bounds false) c.get.ensures
    ∙ sym (ap (duration_bounds c.args.at_end) c.in-AtStart.is ∙ walk.duration_bounds-AtStart c.args.at_end c.in-AtStart.field-0 c.in-AtStart.part)) c.push_bounds.ensures

pub push_bounds-returns-in-AtEnd : goal.push_bounds-returns-in-AtEnd
push_bounds-returns-in-AtEnd t c =
    subst (λ (l : List DurationBound). OnOk c.push_bounds-in-AtEnd.result (bounds_of c.push_bounds-in-AtEnd.new.out ≡ bounds_of c.args.out.now ++ l))
    (ap (duration_bounds true) c.get-in-AtEnd.ensures
    ∙ sym (ap (duration_bounds c.args.at_end) c.in-AtEnd.is ∙ walk.duration_bounds-AtEnd c.args.at_end c.in-AtEnd.field-0 c.in-AtEnd.part)) c.push_bounds-in-AtEnd.ensures

pub push_bounds-returns-in_ok-push-in-Bound : goal.push_bounds-returns-in_ok-push-in-Bound
push_bounds-returns-in_ok-push-in-Bound t c =
    ap bounds_of c.in_ok-push-in-Bound.ensures.ok ∙ map-append _ c.args.out.now _
    ∙ ap (λ (l : List DurationBound). bounds_of c.args.out.now ++ l)
    (sym (ap (duration_bounds c.args.at_end) c.in-Bound.is ∙ walk.duration_bounds-Bound c.args.at_end c.in-Bound.field-0 c.in-Bound.order c.in-Bound.expression))

pub push_bounds-returns-in-LeftOut : goal.push_bounds-returns-in-LeftOut
push_bounds-returns-in-LeftOut t c =
    sym (append-nil (bounds_of c.args.out.now))
    ∙ ap (λ (l : List DurationBound). bounds_of c.args.out.now ++ l) (sym (ap (duration_bounds c.args.at_end) c.in-LeftOut.is ∙ walk.duration_bounds-LeftOut c.args.at_end c.in-LeftOut.field-0))

pub push_all_bounds-loop-tree-preserved : goal.push_all_bounds-loop-tree-preserved
push_all_bounds-loop-tree-preserved t c =
    c.in_ok-push_bounds.ensures ∙ ap (λ l. l ++ duration_bounds c.args.at_end c.tree-item.result) c.loop-tree.invariant
    ∙ append_assoc (bounds_of c.args.out.now) _ _
    ∙ ap (λ l. bounds_of c.args.out.now ++ l) (sym (parts_more (duration_bounds c.args.at_end) c.args.trees.now c.loop-tree.tree-index c.tree-item.result c.loop-tree-test.true c.tree-item.is))
