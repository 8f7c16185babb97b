use Rattle.lp_tableau.proofs.Uniqueness.{choices-one, outcomes-one}
use Rattle.lp_tableau.proofs.laws.chains_are_one.Goals as goal

pub returns-clause-choices : goal.returns-clause-choices
returns-clause-choices c = choices-one

pub returns-clause-outcomes : goal.returns-clause-outcomes
returns-clause-outcomes c = outcomes-one
