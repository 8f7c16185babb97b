use Rattle.std.proofs.Common.{◌≡◌, sym, ap, ap₂, subst, ◌∙◌, OnOk, List, [], ◌∷◌, ◌++◌, map, Bool, true, false, append_assoc}
use Rattle.exact_lin.specs.Forms.{LinearForm}
use Rattle.pddl_terms.specs.declared.trees.Comparison.{Comparison}
use Rattle.task_types.specs.declared.actions.Bound.{Bound}
use Rattle.grounder.specs.Task.{bound_kinds}
use Rattle.grounder.proofs.bounds.push_kinds.Goals as goal

pub returns-in_ok-push_bound-in-Equal : goal.returns-in_ok-push_bound-in-Equal
returns-in_ok-push_bound-in-Equal c =
    let at_end = c.args.at_end in
    let form = c.args.form in
    let bound : Bool → LinearForm → Bound = λ k f. record { at_least = k; at_end = at_end; form = f } in
    subst (λ (l : List Bound). OnOk c.push_bound-in-Equal.result (c.push_bound-in-Equal.new.out ≡ l))
    (ap₂ (λ (l : List Bound) (f : LinearForm). l ++ (bound false f ∷ [])) c.in_ok-push_bound-in-Equal.ensures c.in_ok-same-in-Equal.ensures
    ∙ append_assoc c.args.out.now (bound true form ∷ []) (bound false form ∷ [])
    ∙ ap (λ (l : List Bound). c.args.out.now ++ l) (sym (ap (λ (o : Comparison). map (λ k. bound k form) (bound_kinds o)) c.in-Equal.is))) c.push_bound-in-Equal.ensures
