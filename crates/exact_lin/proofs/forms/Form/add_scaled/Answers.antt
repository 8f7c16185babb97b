use Rattle.std.proofs.Common.{ap}
use Rattle.exact_lin.specs.Forms.{shown}
use Rattle.exact_lin.proofs.FormLaws.{scaled-is, scaled-ascends, scaled-value}
use Rattle.exact_lin.proofs.forms.Form.add_scaled.Goals as goal

pub invariant_of-self : goal.invariant_of-self
invariant_of-self g c = let shows = shown g.V.Id.number_of g.S.Scalar.value in
    scaled-ascends _ _ _ _ _ _ _ _ _ _ _ _ c.self.view_is c.other.view_is (ap shows c.as_slice.ensures.value) (ap shows c.as_slice-2.ensures.value) c.in_ok-mul.ensures.1 c.in_ok-self-inside.ensures.1 c.in_ok-terms.ensures.terms c.self.invariant

pub returns-clause-form : goal.returns-clause-form
returns-clause-form g c = let shows = shown g.V.Id.number_of g.S.Scalar.value in
    scaled-is _ _ _ _ _ _ _ _ _ _ _ _ c.self.view_is c.other.view_is (ap shows c.as_slice.ensures.value) (ap shows c.as_slice-2.ensures.value) c.in_ok-mul.ensures.1 c.in_ok-self-inside.ensures.1 c.in_ok-terms.ensures.terms

pub returns-clause-value : goal.returns-clause-value
returns-clause-value g c = let shows = shown g.V.Id.number_of g.S.Scalar.value in
    scaled-value _ _ _ _ _ _ _ _ _ _ _ _ c.self.view_is c.other.view_is (ap shows c.as_slice.ensures.value) (ap shows c.as_slice-2.ensures.value) c.in_ok-mul.ensures.1 c.in_ok-self-inside.ensures.1 c.in_ok-terms.ensures.terms
