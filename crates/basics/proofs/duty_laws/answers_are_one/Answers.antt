use Rattle.basics.proofs.Duties.{AllMet-no_first, first_unmet-one}
use Rattle.basics.proofs.duty_laws.answers_are_one.Goals as goal

pub returns-clause-apart : goal.returns-clause-apart
returns-clause-apart _ _ = λ h f. AllMet-no_first _ f h

pub returns-clause-one : goal.returns-clause-one
returns-clause-one _ _ = first_unmet-one _
