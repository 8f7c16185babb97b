use Rattle.std.proofs.Common.{ap, ◌∙◌, [], ◌∷◌, ◌++◌, map}
use Rattle.std.proofs.lemmas.List.{map-append}
use Rattle.exact_lin.specs.Forms.{LinearForm}
use Rattle.grounder.specs.ShownGrounding.{ground_of}
use Rattle.grounder.specs.Task.{over_fluents}
use Rattle.grounder.proofs.Pushing.{pushed}
use Rattle.grounder.proofs.fluent_forms.push_compared.Goals as goal

pub loop-form-preserved : goal.loop-form-preserved
loop-form-preserved c =
    let f = over_fluents (ground_of c.args.grounding.now) in
    pushed (map f) (λ x. f x ∷ []) (λ xs x. map-append f xs (x ∷ []))
    c.args.out.now c.loop-form.out c.push.new.self c.as_slice-form-items.result.now c.loop-form.form-index c.form-item.result c.loop-form-test.true c.form-item.is c.loop-form.invariant
    (c.in_ok-push.ensures.ok ∙ ap (λ (k : LinearForm). c.loop-form.out ++ (k ∷ [])) c.in_ok-kept.ensures)
