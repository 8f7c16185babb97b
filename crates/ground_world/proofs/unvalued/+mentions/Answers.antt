use Rattle.std.proofs.Common.{◌≡◌, sym, ap, ap₂, subst, ◌∙◌, ℕ, OnOk, List, [], ◌++◌, map, take, append_assoc, arith}
use Rattle.std.specs.List.{flat_map}
use Rattle.std.proofs.lemmas.List.{append-nil}
use Rattle.std.proofs.lemmas.List.Folds.{flat_map-map}
use Rattle.pddl_terms.specs.declared.trees.ExprTree.{ExprTree}
use Rattle.ground_world.specs.World.{World, Env, GroundAtom}
use Rattle.ground_world.specs.FirstState.{unvalued_places}
use Rattle.ground_world.specs.Expressions.{mentioned}
use Rattle.ground_world.specs.Shown.{env_of, world_of}
use Rattle.ground_world.proofs.Walks as walk
use Rattle.ground_world.proofs.Heights.{greatest, height, below_greatest, height-Sum, height-Product, height-Negative, height-Difference, height-Quotient}
use Rattle.ground_world.proofs.Steps.{parts_more}
use Rattle.ground_world.proofs.UnvaluedPlaces.{unvalued-append, unvalued-joined}
use Rattle.ground_world.proofs.unvalued.+mentions.Goals as goal

-- an expression of a form that mentions nothing adds nothing
nothing : (w : World) (env : Env) (old : List ℕ) (t u : ExprTree) → t ≡ u → mentioned w env u ≡ [] → old ≡ old ++ unvalued_places w (mentioned w env t)
nothing w env old t u e none = sym (append-nil old) ∙ ap (λ l. old ++ unvalued_places w l) (sym (ap (mentioned w env) e ∙ none))

pub push_unvalued-returns-in-Number : goal.push_unvalued-returns-in-Number
push_unvalued-returns-in-Number t c =
    nothing (world_of c.args.tables.now) (env_of c.args.env.now) c.args.out.now c.args.tree.now _ c.in-Number.is (walk.mentioned-Number (world_of c.args.tables.now) (env_of c.args.env.now) c.in-Number.field-0 c.in-Number.field-1)

pub push_unvalued-returns-in-Duration : goal.push_unvalued-returns-in-Duration
push_unvalued-returns-in-Duration t c =
    nothing (world_of c.args.tables.now) (env_of c.args.env.now) c.args.out.now c.args.tree.now _ c.in-Duration.is (walk.mentioned-Duration (world_of c.args.tables.now) (env_of c.args.env.now) c.in-Duration.field-0)

pub push_unvalued-returns-in-LeftOut : goal.push_unvalued-returns-in-LeftOut
push_unvalued-returns-in-LeftOut t c =
    nothing (world_of c.args.tables.now) (env_of c.args.env.now) c.args.out.now c.args.tree.now _ c.in-LeftOut.is (walk.mentioned-LeftOut (world_of c.args.tables.now) (env_of c.args.env.now) c.in-LeftOut.field-0)

pub push_unvalued-returns-in-TotalTime : goal.push_unvalued-returns-in-TotalTime
push_unvalued-returns-in-TotalTime t c =
    nothing (world_of c.args.tables.now) (env_of c.args.env.now) c.args.out.now c.args.tree.now _ c.in-TotalTime.is (walk.mentioned-TotalTime (world_of c.args.tables.now) (env_of c.args.env.now) c.in-TotalTime.field-0)

pub push_unvalued-returns-in-Violated : goal.push_unvalued-returns-in-Violated
push_unvalued-returns-in-Violated t c =
    nothing (world_of c.args.tables.now) (env_of c.args.env.now) c.args.out.now c.args.tree.now _ c.in-Violated.is (walk.mentioned-Violated (world_of c.args.tables.now) (env_of c.args.env.now) c.in-Violated.field-0 c.in-Violated.field-1)

pub push_unvalued-returns-in-TimeCost : goal.push_unvalued-returns-in-TimeCost
push_unvalued-returns-in-TimeCost t c =
    nothing (world_of c.args.tables.now) (env_of c.args.env.now) c.args.out.now c.args.tree.now _ c.in-TimeCost.is (walk.mentioned-TimeCost (world_of c.args.tables.now) (env_of c.args.env.now) c.in-TimeCost.field-0 c.in-TimeCost.field-1)

pub push_unvalued-returns-in-Fluent : goal.push_unvalued-returns-in-Fluent
push_unvalued-returns-in-Fluent t c =
    subst (λ (l : List (ℕ × GroundAtom)). OnOk c.push_fluent.result (c.push_fluent.new.out ≡ c.args.out.now ++ unvalued_places (world_of c.args.tables.now) l))
    (sym (ap (mentioned (world_of c.args.tables.now) (env_of c.args.env.now)) c.in-Fluent.is ∙ walk.mentioned-Fluent (world_of c.args.tables.now) (env_of c.args.env.now) c.in-Fluent.atom)) c.push_fluent.ensures

pub push_unvalued-returns-in-Sum : goal.push_unvalued-returns-in-Sum
push_unvalued-returns-in-Sum t c =
    subst (λ (l : List (ℕ × GroundAtom)). OnOk c.push_all_unvalued.result (c.push_all_unvalued.new.out ≡ c.args.out.now ++ unvalued_places (world_of c.args.tables.now) l))
    (ap (flat_map (mentioned (world_of c.args.tables.now) (env_of c.args.env.now))) c.as_slice.ensures ∙ sym (flat_map-map (λ p. p) (mentioned (world_of c.args.tables.now) (env_of c.args.env.now)) c.in-Sum.parts)
    ∙ sym (ap (mentioned (world_of c.args.tables.now) (env_of c.args.env.now)) c.in-Sum.is ∙ walk.mentioned-Sum (world_of c.args.tables.now) (env_of c.args.env.now) c.in-Sum.field-0 c.in-Sum.parts)) c.push_all_unvalued.ensures

pub push_unvalued-returns-in-Product : goal.push_unvalued-returns-in-Product
push_unvalued-returns-in-Product t c =
    subst (λ (l : List (ℕ × GroundAtom)). OnOk c.push_all_unvalued-in-Product.result (c.push_all_unvalued-in-Product.new.out ≡ c.args.out.now ++ unvalued_places (world_of c.args.tables.now) l))
    (ap (flat_map (mentioned (world_of c.args.tables.now) (env_of c.args.env.now))) c.as_slice-in-Product.ensures ∙ sym (flat_map-map (λ p. p) (mentioned (world_of c.args.tables.now) (env_of c.args.env.now)) c.in-Product.parts)
    ∙ sym (ap (mentioned (world_of c.args.tables.now) (env_of c.args.env.now)) c.in-Product.is ∙ walk.mentioned-Product (world_of c.args.tables.now) (env_of c.args.env.now) c.in-Product.field-0 c.in-Product.parts)) c.push_all_unvalued-in-Product.ensures

pub push_unvalued-returns-in-Negative : goal.push_unvalued-returns-in-Negative
push_unvalued-returns-in-Negative t c =
    subst (λ (l : List (ℕ × GroundAtom)). OnOk c.push_unvalued.result (c.push_unvalued.new.out ≡ c.args.out.now ++ unvalued_places (world_of c.args.tables.now) l))
    (ap (mentioned (world_of c.args.tables.now) (env_of c.args.env.now)) c.get.ensures
    ∙ sym (ap (mentioned (world_of c.args.tables.now) (env_of c.args.env.now)) c.in-Negative.is ∙ walk.mentioned-Negative (world_of c.args.tables.now) (env_of c.args.env.now) c.in-Negative.field-0 c.in-Negative.part)) c.push_unvalued.ensures

pub push_unvalued-returns-in-Difference : goal.push_unvalued-returns-in-Difference
push_unvalued-returns-in-Difference t c =
    let m = mentioned (world_of c.args.tables.now) (env_of c.args.env.now) in
    subst (λ (l : List ℕ). OnOk c.push_both_unvalued.result (c.push_both_unvalued.new.out ≡ l))
    (ap₂ (λ (x y : ExprTree). (c.args.out.now ++ unvalued_places (world_of c.args.tables.now) (m x)) ++ unvalued_places (world_of c.args.tables.now) (m y)) c.get-in-Difference.ensures c.get-in-Difference-2.ensures
    ∙ unvalued-joined (world_of c.args.tables.now) c.args.out.now (m c.in-Difference.left) (m c.in-Difference.right)
    ∙ ap (λ l. c.args.out.now ++ unvalued_places (world_of c.args.tables.now) l) (sym (ap m c.in-Difference.is ∙ walk.mentioned-Difference (world_of c.args.tables.now) (env_of c.args.env.now) c.in-Difference.field-0 c.in-Difference.left c.in-Difference.right)))
    c.push_both_unvalued.ensures

pub push_unvalued-returns-in-Quotient : goal.push_unvalued-returns-in-Quotient
push_unvalued-returns-in-Quotient t c =
    let m = mentioned (world_of c.args.tables.now) (env_of c.args.env.now) in
    subst (λ (l : List ℕ). OnOk c.push_both_unvalued-in-Quotient.result (c.push_both_unvalued-in-Quotient.new.out ≡ l))
    (ap₂ (λ (x y : ExprTree). (c.args.out.now ++ unvalued_places (world_of c.args.tables.now) (m x)) ++ unvalued_places (world_of c.args.tables.now) (m y)) c.get-in-Quotient.ensures c.get-in-Quotient-2.ensures
    ∙ unvalued-joined (world_of c.args.tables.now) c.args.out.now (m c.in-Quotient.left) (m c.in-Quotient.right)
    ∙ ap (λ l. c.args.out.now ++ unvalued_places (world_of c.args.tables.now) l) (sym (ap m c.in-Quotient.is ∙ walk.mentioned-Quotient (world_of c.args.tables.now) (env_of c.args.env.now) c.in-Quotient.field-0 c.in-Quotient.left c.in-Quotient.right)))
    c.push_both_unvalued-in-Quotient.ensures

pub push_all_unvalued-loop-tree-preserved : goal.push_all_unvalued-loop-tree-preserved
push_all_unvalued-loop-tree-preserved t c =
    let w = world_of c.args.tables.now in
    let f = mentioned w (env_of c.args.env.now) in
    c.in_ok-push_unvalued.ensures ∙ ap (λ l. l ++ unvalued_places w (f c.tree-item.result)) c.loop-tree.invariant
    ∙ append_assoc c.args.out.now _ _
    ∙ ap (λ l. c.args.out.now ++ l) (sym (unvalued-append w (flat_map f (take c.loop-tree.tree-index c.args.trees.now)) (f c.tree-item.result))
    ∙ ap (unvalued_places w) (sym (parts_more f c.args.trees.now c.loop-tree.tree-index c.tree-item.result c.loop-tree-test.true c.tree-item.is)))

pub push_both_unvalued-push_unvalued-requires-2 : goal.push_both_unvalued-push_unvalued-requires-2
push_both_unvalued-push_unvalued-requires-2 t c = (omega (arith, c.decreases), tt)

pub push_unvalued-push_all_unvalued-requires : goal.push_unvalued-push_all_unvalued-requires
push_unvalued-push_all_unvalued-requires t c =
    let h = ap height c.in-Sum.is ∙ height-Sum c.in-Sum.field-0 c.in-Sum.parts in
    let s = ap (λ (ts : List ExprTree). greatest (map height ts)) c.as_slice.ensures in
    (omega (arith, h, s, c.decreases), tt)

pub push_unvalued-push_all_unvalued-requires-in-Product : goal.push_unvalued-push_all_unvalued-requires-in-Product
push_unvalued-push_all_unvalued-requires-in-Product t c =
    let h = ap height c.in-Product.is ∙ height-Product c.in-Product.field-0 c.in-Product.parts in
    let s = ap (λ (ts : List ExprTree). greatest (map height ts)) c.as_slice-in-Product.ensures in
    (omega (arith, h, s, c.decreases), tt)

pub push_unvalued-push_both_unvalued-requires : goal.push_unvalued-push_both_unvalued-requires
push_unvalued-push_both_unvalued-requires t c =
    let h = ap height c.in-Difference.is ∙ height-Difference c.in-Difference.field-0 c.in-Difference.left c.in-Difference.right in
    let l = ap height c.get-in-Difference.ensures in
    let r = ap height c.get-in-Difference-2.ensures in
    (omega (arith, h, l, r, c.decreases), tt)

pub push_unvalued-push_both_unvalued-requires-in-Quotient : goal.push_unvalued-push_both_unvalued-requires-in-Quotient
push_unvalued-push_both_unvalued-requires-in-Quotient t c =
    let h = ap height c.in-Quotient.is ∙ height-Quotient c.in-Quotient.field-0 c.in-Quotient.left c.in-Quotient.right in
    let l = ap height c.get-in-Quotient.ensures in
    let r = ap height c.get-in-Quotient-2.ensures in
    (omega (arith, h, l, r, c.decreases), tt)

pub push_unvalued-push_unvalued-requires : goal.push_unvalued-push_unvalued-requires
push_unvalued-push_unvalued-requires t c =
    let h = ap height c.in-Negative.is ∙ height-Negative c.in-Negative.field-0 c.in-Negative.part in
    let s = ap height c.get.ensures in
    (omega (arith, h, s, c.decreases), tt)

pub push_all_unvalued-push_unvalued-requires : goal.push_all_unvalued-push_unvalued-requires
push_all_unvalued-push_unvalued-requires t c =
    let below = below_greatest c.args.trees.now c.loop-tree.tree-index c.tree-item.result c.loop-tree-test.true c.tree-item.is in
    (omega (arith, below, c.decreases), tt)

pub push_both_unvalued-push_unvalued-requires : goal.push_both_unvalued-push_unvalued-requires
push_both_unvalued-push_unvalued-requires t c = (omega (arith, c.decreases), tt)
