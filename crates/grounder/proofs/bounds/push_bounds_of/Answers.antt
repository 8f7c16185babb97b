use Rattle.std.proofs.Common.{◌≡◌, sym, ap, subst, ◌∙◌, OnOk, List, map, Bool, ◌++◌}
use Rattle.std.proofs.lemmas.List.{append-nil}
use Rattle.exact_lin.specs.Forms.{LinearForm}
use Rattle.task_types.specs.declared.actions.Bound.{Bound}
use Rattle.grounder.specs.ShownGrounding.{ground_of}
use Rattle.grounder.specs.Task.{over_fluents, bound_kinds}
use Rattle.grounder.proofs.bounds.push_bounds_of.Goals as goal

pub returns : goal.returns
returns c =
    let g = ground_of c.args.grounding.now in
    let b = c.args.bound.now in
    let form_is = c.in_ok-form.ensures ∙ ap (over_fluents g) c.in_ok-whole.ensures in
    subst (λ (l : List Bound). OnOk c.push_kinds.result (c.push_kinds.new.out ≡ c.args.out.now ++ l))
    (ap (λ (f : LinearForm). map {B = Bound} (λ (k : Bool). record { at_least = k; at_end = b.at_end; form = f }) (bound_kinds b.order)) form_is ∙ sym (append-nil _)) c.push_kinds.ensures
