use Rattle.sexpr_text.proofs.NumberTokens.{token-number, token-few}
use Rattle.sexpr_text.proofs.laws.number_tokens_are_decimals.Goals as goal

pub returns-clause-number : goal.returns-clause-number
returns-clause-number _ = token-number

pub returns-clause-few : goal.returns-clause-few
returns-clause-few _ = token-few
