use Rattle.basics.proofs.Duties.{AllMet-no_first, first_unmet-one}
use Rattle.exact_lin.specs.Reckonings.{place_duties}
use Rattle.exact_lin.proofs.Reckonings.{all_or_first_undefined}
use Rattle.exact_lin.proofs.reckoning_laws.places_have_one_answer.Goals as goal

pub returns-clause-some : goal.returns-clause-some
returns-clause-some _ _ = all_or_first_undefined

pub returns-clause-apart : goal.returns-clause-apart
returns-clause-apart _ _ = λ limit places h p. AllMet-no_first (place_duties limit places) p h

pub returns-clause-one : goal.returns-clause-one
returns-clause-one _ _ = λ limit places p q. first_unmet-one (place_duties limit places) p q
