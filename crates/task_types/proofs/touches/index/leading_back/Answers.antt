use Rattle.std.proofs.Common.{◌∙◌, sym, ap, subst, ◌<◌, ◌++◌, ◌∷◌, [], length, List, ℕ, ◌+◌, map, take}
use Rattle.std.proofs.lemmas.List.{map_more}
use Rattle.task_types.specs.declared.actions.Snap.{Snap}
use Rattle.task_types.specs.Related.{related, LeadsBack}
use Rattle.task_types.proofs.LeadingBack.{leads_back_more, length-map-take}
use Rattle.task_types.proofs.touches.index.leading_back.Goals as goal

pub loop-snap-preserved : goal.loop-snap-preserved
loop-snap-preserved c =
    let snaps : List Snap = c.as_slice-snap-items.result.now in
    let f : Snap → List ℕ = related c.args.parts.now c.args.relation in
    let inside : c.loop-snap.snap-index < length c.as_slice-snap-items.result.now = c.loop-snap-test.true in (
      ap (λ k. k + 1) c.loop-snap.invariant.0,
      subst (λ lists. LeadsBack c.put_snap.new.rows.items c.args.count lists)
          (sym (map_more f snaps c.loop-snap.snap-index c.snap-item.result inside ∙ ap (λ s. map f (take c.loop-snap.snap-index snaps) ++ f s ∷ []) (sym c.snap-item.is)))
          (leads_back_more c.loop-snap.rows.items c.put_snap.new.rows.items c.args.count (map f (take c.loop-snap.snap-index snaps)) (f c.snap-item.result) c.loop-snap.place
          (c.loop-snap.invariant.0 ∙ sym (length-map-take f snaps c.loop-snap.snap-index inside)) c.loop-snap.invariant.1 (c.in_ok-put_snap.ensures {u = tt})),
    )
