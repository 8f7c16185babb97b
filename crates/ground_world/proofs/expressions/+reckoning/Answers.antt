use Rattle.std.proofs.Common.{◌≡◌, refl, ℕ, sym, ap, ap₂, subst, ◌∙◌, OnOk, IfOk, List, [], ◌∷◌, ◌++◌, map, Some, Option, Result, Ok, Err, arith}
use Rattle.std.proofs.lemmas.List.{append-nil}
use Rattle.exact_lin.specs.Forms.{LinearForm}
use Rattle.pddl_terms.specs.declared.trees.ExprTree.{ExprTree}
use Rattle.pddl_terms.specs.declared.trees.ExprTree.TheVariants as expr
use Rattle.ground_world.specs.declared.operations.Flaw.{Flaw}
use Rattle.ground_world.specs.declared.operations.Operation.TheVariants.{Sum, Product}
use Rattle.ground_world.specs.declared.readings.Reading.{Reading}
use Rattle.ground_world.specs.Expressions.{Reckoned, operated, divided, minus_form, unknown, preference_unknown, cost_unknown}
use Rattle.ground_world.specs.Operations.{operation}
use Rattle.ground_world.specs.Readings.{world_in, unknowns_in, env_in, reckoned_in}
use Rattle.ground_world.proofs.Walks as walk
use Rattle.ground_world.proofs.Heights.{greatest, height, below_greatest, height-Sum, height-Product, height-Negative, height-Difference, height-Quotient}
use Rattle.ground_world.proofs.Listing.{one_value_more, flaws_more}
use Rattle.ground_world.proofs.expressions.+reckoning.Goals as goal

-- what an expression is reckoned as, where it is of a form
value_at : (r : Reading) (t u : ExprTree) (k : Reckoned) → t ≡ u → reckoned_in r u ≡ k → k.value ≡ (reckoned_in r t).value
value_at r t u k e h = sym (ap (λ (x : ExprTree). (reckoned_in r x).value) e ∙ ap (λ (q : Reckoned). q.value) h)

flaws_at : (r : Reading) (t u : ExprTree) (k : Reckoned) → t ≡ u → reckoned_in r u ≡ k → k.flaws ≡ (reckoned_in r t).flaws
flaws_at r t u k e h = sym (ap (λ (x : ExprTree). (reckoned_in r x).flaws) e ∙ ap (λ (q : Reckoned). q.flaws) h)

no_flaws : (r : Reading) (t u : ExprTree) (k : Reckoned) (old : List Flaw) → t ≡ u → reckoned_in r u ≡ k → k.flaws ≡ []
    → old ≡ old ++ (reckoned_in r t).flaws
no_flaws r t u k old e h none = sym (append-nil old) ∙ ap (λ l. old ++ l) (sym none ∙ flaws_at r t u k e h)

on_ok : {A B P : Type 0} (res : Result A B) → P → OnOk res P
on_ok (Ok a) p = p
on_ok (Err e) p = tt

pub reckon-returns-in-Number-clause-value : goal.reckon-returns-in-Number-clause-value
reckon-returns-in-Number-clause-value t c =
    ap Some c.constant_form.ensures ∙ value_at c.args.reading.now c.args.tree.now (expr.Number c.in-Number.field-0 c.in-Number.number) _ c.in-Number.is (walk.reckoned-Number (world_in c.args.reading.now) (unknowns_in c.args.reading.now) (env_in c.args.reading.now) c.in-Number.field-0 c.in-Number.number)

pub reckon-returns-in-Number-clause-flaws : goal.reckon-returns-in-Number-clause-flaws
reckon-returns-in-Number-clause-flaws t c =
    no_flaws c.args.reading.now c.args.tree.now (expr.Number c.in-Number.field-0 c.in-Number.number) _ c.args.flaws.now c.in-Number.is (walk.reckoned-Number (world_in c.args.reading.now) (unknowns_in c.args.reading.now) (env_in c.args.reading.now) c.in-Number.field-0 c.in-Number.number) refl

pub reckon-returns-in-Fluent-clause-value : goal.reckon-returns-in-Fluent-clause-value
reckon-returns-in-Fluent-clause-value t c =
    subst (λ (u : Option LinearForm). IfOk c.atom_form.result (λ v. v ≡ u)) (value_at c.args.reading.now c.args.tree.now (expr.Fluent c.in-Fluent.atom) _ c.in-Fluent.is (walk.reckoned-Fluent (world_in c.args.reading.now) (unknowns_in c.args.reading.now) (env_in c.args.reading.now) c.in-Fluent.atom)) c.atom_form.ensures

pub reckon-returns-in-Fluent-clause-flaws : goal.reckon-returns-in-Fluent-clause-flaws
reckon-returns-in-Fluent-clause-flaws t c =
    on_ok c.atom_form.result (no_flaws c.args.reading.now c.args.tree.now (expr.Fluent c.in-Fluent.atom) _ c.args.flaws.now c.in-Fluent.is (walk.reckoned-Fluent (world_in c.args.reading.now) (unknowns_in c.args.reading.now) (env_in c.args.reading.now) c.in-Fluent.atom) refl)

pub reckon-returns-in-Duration-clause-value : goal.reckon-returns-in-Duration-clause-value
reckon-returns-in-Duration-clause-value t c =
    subst (λ (u : Option LinearForm). IfOk c.own_form.result (λ v. v ≡ u)) (value_at c.args.reading.now c.args.tree.now (expr.Duration c.in-Duration.field-0) _ c.in-Duration.is (walk.reckoned-Duration (world_in c.args.reading.now) (unknowns_in c.args.reading.now) (env_in c.args.reading.now) c.in-Duration.field-0)) c.own_form.ensures

pub reckon-returns-in-Duration-clause-flaws : goal.reckon-returns-in-Duration-clause-flaws
reckon-returns-in-Duration-clause-flaws t c =
    on_ok c.own_form.result (no_flaws c.args.reading.now c.args.tree.now (expr.Duration c.in-Duration.field-0) _ c.args.flaws.now c.in-Duration.is (walk.reckoned-Duration (world_in c.args.reading.now) (unknowns_in c.args.reading.now) (env_in c.args.reading.now) c.in-Duration.field-0) refl)

pub reckon-returns-in-TotalTime-clause-value : goal.reckon-returns-in-TotalTime-clause-value
reckon-returns-in-TotalTime-clause-value t c =
    subst (λ (u : Option LinearForm). IfOk c.own_form-in-TotalTime.result (λ v. v ≡ u)) (value_at c.args.reading.now c.args.tree.now (expr.TotalTime c.in-TotalTime.field-0) _ c.in-TotalTime.is (walk.reckoned-TotalTime (world_in c.args.reading.now) (unknowns_in c.args.reading.now) (env_in c.args.reading.now) c.in-TotalTime.field-0)) c.own_form-in-TotalTime.ensures

pub reckon-returns-in-TotalTime-clause-flaws : goal.reckon-returns-in-TotalTime-clause-flaws
reckon-returns-in-TotalTime-clause-flaws t c =
    on_ok c.own_form-in-TotalTime.result (no_flaws c.args.reading.now c.args.tree.now (expr.TotalTime c.in-TotalTime.field-0) _ c.args.flaws.now c.in-TotalTime.is (walk.reckoned-TotalTime (world_in c.args.reading.now) (unknowns_in c.args.reading.now) (env_in c.args.reading.now) c.in-TotalTime.field-0) refl)

pub reckon-returns-in-Violated-clause-value : goal.reckon-returns-in-Violated-clause-value
reckon-returns-in-Violated-clause-value t c =
    subst (λ (u : Option LinearForm). IfOk c.preference_form.result (λ v. v ≡ u))
    (ap (λ (n : List ℕ). Some (unknown (preference_unknown (world_in c.args.reading.now) (unknowns_in c.args.reading.now) n))) c.as_slice-in-Violated.ensures
    ∙ value_at c.args.reading.now c.args.tree.now (expr.Violated c.in-Violated.field-0 c.in-Violated.name) _ c.in-Violated.is (walk.reckoned-Violated (world_in c.args.reading.now) (unknowns_in c.args.reading.now) (env_in c.args.reading.now) c.in-Violated.field-0 c.in-Violated.name)) c.preference_form.ensures

pub reckon-returns-in-Violated-clause-flaws : goal.reckon-returns-in-Violated-clause-flaws
reckon-returns-in-Violated-clause-flaws t c =
    on_ok c.preference_form.result (no_flaws c.args.reading.now c.args.tree.now (expr.Violated c.in-Violated.field-0 c.in-Violated.name) _ c.args.flaws.now c.in-Violated.is (walk.reckoned-Violated (world_in c.args.reading.now) (unknowns_in c.args.reading.now) (env_in c.args.reading.now) c.in-Violated.field-0 c.in-Violated.name) refl)

pub reckon-returns-in-TimeCost-clause-value : goal.reckon-returns-in-TimeCost-clause-value
reckon-returns-in-TimeCost-clause-value t c =
    subst (λ (u : Option LinearForm). IfOk c.cost_form.result (λ v. v ≡ u))
    (ap (λ (n : List ℕ). Some (unknown (cost_unknown (world_in c.args.reading.now) (unknowns_in c.args.reading.now) n))) c.as_slice-in-TimeCost.ensures
    ∙ value_at c.args.reading.now c.args.tree.now (expr.TimeCost c.in-TimeCost.field-0 c.in-TimeCost.name) _ c.in-TimeCost.is (walk.reckoned-TimeCost (world_in c.args.reading.now) (unknowns_in c.args.reading.now) (env_in c.args.reading.now) c.in-TimeCost.field-0 c.in-TimeCost.name)) c.cost_form.ensures

pub reckon-returns-in-TimeCost-clause-flaws : goal.reckon-returns-in-TimeCost-clause-flaws
reckon-returns-in-TimeCost-clause-flaws t c =
    on_ok c.cost_form.result (no_flaws c.args.reading.now c.args.tree.now (expr.TimeCost c.in-TimeCost.field-0 c.in-TimeCost.name) _ c.args.flaws.now c.in-TimeCost.is (walk.reckoned-TimeCost (world_in c.args.reading.now) (unknowns_in c.args.reading.now) (env_in c.args.reading.now) c.in-TimeCost.field-0 c.in-TimeCost.name) refl)

pub reckon-returns-in-LeftOut-clause-value : goal.reckon-returns-in-LeftOut-clause-value
reckon-returns-in-LeftOut-clause-value t c =
    value_at c.args.reading.now c.args.tree.now (expr.LeftOut c.in-LeftOut.field-0) _ c.in-LeftOut.is (walk.reckoned-LeftOut (world_in c.args.reading.now) (unknowns_in c.args.reading.now) (env_in c.args.reading.now) c.in-LeftOut.field-0)

pub reckon-returns-in-LeftOut-clause-flaws : goal.reckon-returns-in-LeftOut-clause-flaws
reckon-returns-in-LeftOut-clause-flaws t c =
    no_flaws c.args.reading.now c.args.tree.now (expr.LeftOut c.in-LeftOut.field-0) _ c.args.flaws.now c.in-LeftOut.is (walk.reckoned-LeftOut (world_in c.args.reading.now) (unknowns_in c.args.reading.now) (env_in c.args.reading.now) c.in-LeftOut.field-0) refl

pub reckon-returns-in-Sum-clause-value : goal.reckon-returns-in-Sum-clause-value
reckon-returns-in-Sum-clause-value t c =
    subst (λ (u : Option LinearForm). IfOk c.reckon_list.result (λ v. v ≡ u))
    (ap (λ (ts : List ExprTree). (operated c.in-Sum.at (operation Sum) (map (reckoned_in c.args.reading.now) ts)).value) c.as_slice.ensures
    ∙ value_at c.args.reading.now c.args.tree.now (expr.Sum c.in-Sum.at c.in-Sum.parts) _ c.in-Sum.is (walk.reckoned-Sum (world_in c.args.reading.now) (unknowns_in c.args.reading.now) (env_in c.args.reading.now) c.in-Sum.at c.in-Sum.parts)) c.reckon_list.ensures.value

pub reckon-returns-in-Sum-clause-flaws : goal.reckon-returns-in-Sum-clause-flaws
reckon-returns-in-Sum-clause-flaws t c =
    subst (λ (l : List Flaw). OnOk c.reckon_list.result (c.reckon_list.new.flaws ≡ c.args.flaws.now ++ l))
    (ap (λ (ts : List ExprTree). (operated c.in-Sum.at (operation Sum) (map (reckoned_in c.args.reading.now) ts)).flaws) c.as_slice.ensures
    ∙ flaws_at c.args.reading.now c.args.tree.now (expr.Sum c.in-Sum.at c.in-Sum.parts) _ c.in-Sum.is (walk.reckoned-Sum (world_in c.args.reading.now) (unknowns_in c.args.reading.now) (env_in c.args.reading.now) c.in-Sum.at c.in-Sum.parts)) c.reckon_list.ensures.flaws

pub reckon-returns-in-Product-clause-value : goal.reckon-returns-in-Product-clause-value
reckon-returns-in-Product-clause-value t c =
    subst (λ (u : Option LinearForm). IfOk c.reckon_list-in-Product.result (λ v. v ≡ u))
    (ap (λ (ts : List ExprTree). (operated c.in-Product.at (operation Product) (map (reckoned_in c.args.reading.now) ts)).value) c.as_slice-in-Product.ensures
    ∙ value_at c.args.reading.now c.args.tree.now (expr.Product c.in-Product.at c.in-Product.parts) _ c.in-Product.is (walk.reckoned-Product (world_in c.args.reading.now) (unknowns_in c.args.reading.now) (env_in c.args.reading.now) c.in-Product.at c.in-Product.parts)) c.reckon_list-in-Product.ensures.value

pub reckon-returns-in-Product-clause-flaws : goal.reckon-returns-in-Product-clause-flaws
reckon-returns-in-Product-clause-flaws t c =
    subst (λ (l : List Flaw). OnOk c.reckon_list-in-Product.result (c.reckon_list-in-Product.new.flaws ≡ c.args.flaws.now ++ l))
    (ap (λ (ts : List ExprTree). (operated c.in-Product.at (operation Product) (map (reckoned_in c.args.reading.now) ts)).flaws) c.as_slice-in-Product.ensures
    ∙ flaws_at c.args.reading.now c.args.tree.now (expr.Product c.in-Product.at c.in-Product.parts) _ c.in-Product.is (walk.reckoned-Product (world_in c.args.reading.now) (unknowns_in c.args.reading.now) (env_in c.args.reading.now) c.in-Product.at c.in-Product.parts)) c.reckon_list-in-Product.ensures.flaws

pub reckon-returns-in-Negative-clause-value : goal.reckon-returns-in-Negative-clause-value
reckon-returns-in-Negative-clause-value t c =
    subst (λ (u : Option LinearForm). IfOk c.reckon_negative.result (λ v. v ≡ u))
    (ap (λ (x : ExprTree). (operated c.in-Negative.at minus_form (reckoned_in c.args.reading.now x ∷ [])).value) c.get.ensures
    ∙ value_at c.args.reading.now c.args.tree.now (expr.Negative c.in-Negative.at c.in-Negative.part) _ c.in-Negative.is (walk.reckoned-Negative (world_in c.args.reading.now) (unknowns_in c.args.reading.now) (env_in c.args.reading.now) c.in-Negative.at c.in-Negative.part)) c.reckon_negative.ensures.value

pub reckon-returns-in-Negative-clause-flaws : goal.reckon-returns-in-Negative-clause-flaws
reckon-returns-in-Negative-clause-flaws t c =
    subst (λ (l : List Flaw). OnOk c.reckon_negative.result (c.reckon_negative.new.flaws ≡ c.args.flaws.now ++ l))
    (ap (λ (x : ExprTree). (operated c.in-Negative.at minus_form (reckoned_in c.args.reading.now x ∷ [])).flaws) c.get.ensures
    ∙ flaws_at c.args.reading.now c.args.tree.now (expr.Negative c.in-Negative.at c.in-Negative.part) _ c.in-Negative.is (walk.reckoned-Negative (world_in c.args.reading.now) (unknowns_in c.args.reading.now) (env_in c.args.reading.now) c.in-Negative.at c.in-Negative.part)) c.reckon_negative.ensures.flaws

pub reckon-returns-in-Difference-clause-value : goal.reckon-returns-in-Difference-clause-value
reckon-returns-in-Difference-clause-value t c =
    subst (λ (u : Option LinearForm). IfOk c.reckon_difference.result (λ v. v ≡ u))
    (ap₂ (λ (x y : ExprTree). (operated c.in-Difference.at minus_form (reckoned_in c.args.reading.now x ∷ reckoned_in c.args.reading.now y ∷ [])).value) c.get-in-Difference.ensures c.get-in-Difference-2.ensures
    ∙ value_at c.args.reading.now c.args.tree.now (expr.Difference c.in-Difference.at c.in-Difference.left c.in-Difference.right) _ c.in-Difference.is (walk.reckoned-Difference (world_in c.args.reading.now) (unknowns_in c.args.reading.now) (env_in c.args.reading.now) c.in-Difference.at c.in-Difference.left c.in-Difference.right)) c.reckon_difference.ensures.value

pub reckon-returns-in-Difference-clause-flaws : goal.reckon-returns-in-Difference-clause-flaws
reckon-returns-in-Difference-clause-flaws t c =
    subst (λ (l : List Flaw). OnOk c.reckon_difference.result (c.reckon_difference.new.flaws ≡ c.args.flaws.now ++ l))
    (ap₂ (λ (x y : ExprTree). (operated c.in-Difference.at minus_form (reckoned_in c.args.reading.now x ∷ reckoned_in c.args.reading.now y ∷ [])).flaws) c.get-in-Difference.ensures c.get-in-Difference-2.ensures
    ∙ flaws_at c.args.reading.now c.args.tree.now (expr.Difference c.in-Difference.at c.in-Difference.left c.in-Difference.right) _ c.in-Difference.is (walk.reckoned-Difference (world_in c.args.reading.now) (unknowns_in c.args.reading.now) (env_in c.args.reading.now) c.in-Difference.at c.in-Difference.left c.in-Difference.right)) c.reckon_difference.ensures.flaws

pub reckon-returns-in-Quotient-clause-value : goal.reckon-returns-in-Quotient-clause-value
reckon-returns-in-Quotient-clause-value t c =
    subst (λ (u : Option LinearForm). IfOk c.reckon_quotient.result (λ v. v ≡ u))
    (ap₂ (λ (x y : ExprTree). (divided c.in-Quotient.at (reckoned_in c.args.reading.now x) (reckoned_in c.args.reading.now y)).value) c.get-in-Quotient.ensures c.get-in-Quotient-2.ensures
    ∙ value_at c.args.reading.now c.args.tree.now (expr.Quotient c.in-Quotient.at c.in-Quotient.left c.in-Quotient.right) _ c.in-Quotient.is (walk.reckoned-Quotient (world_in c.args.reading.now) (unknowns_in c.args.reading.now) (env_in c.args.reading.now) c.in-Quotient.at c.in-Quotient.left c.in-Quotient.right)) c.reckon_quotient.ensures.value

pub reckon-returns-in-Quotient-clause-flaws : goal.reckon-returns-in-Quotient-clause-flaws
reckon-returns-in-Quotient-clause-flaws t c =
    subst (λ (l : List Flaw). OnOk c.reckon_quotient.result (c.reckon_quotient.new.flaws ≡ c.args.flaws.now ++ l))
    (ap₂ (λ (x y : ExprTree). (divided c.in-Quotient.at (reckoned_in c.args.reading.now x) (reckoned_in c.args.reading.now y)).flaws) c.get-in-Quotient.ensures c.get-in-Quotient-2.ensures
    ∙ flaws_at c.args.reading.now c.args.tree.now (expr.Quotient c.in-Quotient.at c.in-Quotient.left c.in-Quotient.right) _ c.in-Quotient.is (walk.reckoned-Quotient (world_in c.args.reading.now) (unknowns_in c.args.reading.now) (env_in c.args.reading.now) c.in-Quotient.at c.in-Quotient.left c.in-Quotient.right)) c.reckon_quotient.ensures.flaws

pub reckon_list-loop-tree-preserved : goal.reckon_list-loop-tree-preserved
reckon_list-loop-tree-preserved t c =
    let f : ExprTree → Reckoned = reckoned_in c.args.reading.now in (
      one_value_more f c.args.trees.now c.loop-tree.tree-index c.tree-item.result c.loop-tree-test.true c.tree-item.is
          _ _ c.in_ok-value.value c.loop-tree.invariant.0 c.in_ok-value.ensures.value c.in_ok-push.ensures,
      flaws_more f c.args.trees.now c.loop-tree.tree-index c.tree-item.result c.loop-tree-test.true c.tree-item.is
          c.args.flaws.now _ _ c.loop-tree.invariant.1 c.in_ok-value.ensures.flaws,
    )

-- ---- each call is for something lower

pub reckon-reckon_list-requires : goal.reckon-reckon_list-requires
reckon-reckon_list-requires t c =
    let h = ap height c.in-Sum.is ∙ height-Sum c.in-Sum.at c.in-Sum.parts in
    let s = ap (λ (ts : List ExprTree). greatest (map height ts)) c.as_slice.ensures in
    (omega (arith, h, s, c.decreases), tt)

pub reckon-reckon_list-requires-in-Product : goal.reckon-reckon_list-requires-in-Product
reckon-reckon_list-requires-in-Product t c =
    let h = ap height c.in-Product.is ∙ height-Product c.in-Product.at c.in-Product.parts in
    let s = ap (λ (ts : List ExprTree). greatest (map height ts)) c.as_slice-in-Product.ensures in
    (omega (arith, h, s, c.decreases), tt)

pub reckon-reckon_negative-requires : goal.reckon-reckon_negative-requires
reckon-reckon_negative-requires t c =
    let h = ap height c.in-Negative.is ∙ height-Negative c.in-Negative.at c.in-Negative.part in
    let s = ap height c.get.ensures in
    (omega (arith, h, s, c.decreases), tt)

pub reckon-reckon_difference-requires : goal.reckon-reckon_difference-requires
reckon-reckon_difference-requires t c =
    let h = ap height c.in-Difference.is ∙ height-Difference c.in-Difference.at c.in-Difference.left c.in-Difference.right in
    let l = ap height c.get-in-Difference.ensures in
    let r = ap height c.get-in-Difference-2.ensures in
    (omega (arith, h, l, r, c.decreases), tt)

pub reckon-reckon_quotient-requires : goal.reckon-reckon_quotient-requires
reckon-reckon_quotient-requires t c =
    let h = ap height c.in-Quotient.is ∙ height-Quotient c.in-Quotient.at c.in-Quotient.left c.in-Quotient.right in
    let l = ap height c.get-in-Quotient.ensures in
    let r = ap height c.get-in-Quotient-2.ensures in
    (omega (arith, h, l, r, c.decreases), tt)

pub reckon_list-reckon-requires : goal.reckon_list-reckon-requires
reckon_list-reckon-requires t c =
    let below = below_greatest c.args.trees.now c.loop-tree.tree-index c.tree-item.result c.loop-tree-test.true c.tree-item.is in
    (omega (arith, below, c.decreases), tt)

pub reckon_negative-reckon-requires : goal.reckon_negative-reckon-requires
reckon_negative-reckon-requires t c = (omega (arith, c.decreases), tt)

pub reckon_difference-reckon-requires : goal.reckon_difference-reckon-requires
reckon_difference-reckon-requires t c = (omega (arith, c.decreases), tt)

pub reckon_difference-reckon-requires-2 : goal.reckon_difference-reckon-requires-2
reckon_difference-reckon-requires-2 t c = (omega (arith, c.decreases), tt)

pub reckon_quotient-reckon-requires : goal.reckon_quotient-reckon-requires
reckon_quotient-reckon-requires t c = (omega (arith, c.decreases), tt)

pub reckon_quotient-reckon-requires-2 : goal.reckon_quotient-reckon-requires-2
reckon_quotient-reckon-requires-2 t c = (omega (arith, c.decreases), tt)
