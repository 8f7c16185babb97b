use Rattle.exact_lin.proofs.FormLaws.{term-ascends, term-is, term-value}
use Rattle.exact_lin.proofs.forms.Form.add_term.Goals as goal

pub invariant_of-self-2 : goal.invariant_of-self-2
invariant_of-self-2 g c = term-ascends _ _ _ _ _ _ c.self.view_is c.in_ok-add_to_terms.ensures.terms c.self.invariant

pub returns-clause-form : goal.returns-clause-form
returns-clause-form g c = term-is _ _ _ _ _ _ c.self.view_is c.in_ok-add_to_terms.ensures.terms

pub returns-clause-value : goal.returns-clause-value
returns-clause-value g c = term-value _ _ _ _ _ _ c.self.view_is c.in_ok-add_to_terms.ensures.terms
