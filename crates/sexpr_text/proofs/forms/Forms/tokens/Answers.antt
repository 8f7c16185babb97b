use Rattle.std.proofs.Common.{subst}
use Rattle.sexpr_text.specs.Forms.{Lexed}
use Rattle.sexpr_text.specs.Token.{AreTokens}
use Rattle.sexpr_text.proofs.Unique.{lie_within, are_ordered, mates_lead_back, mates_are_behind}
use Rattle.sexpr_text.proofs.forms.Forms.tokens.Goals as goal
use Rattle.sexpr_text.proofs.forms.Forms.tokens.Goals.{After-deref}

-- what the type keeps, of the value that callers see
lexed : (c : After-deref) → AreTokens c.args.self.now.text c.args.self.now.tokens
lexed c = subst (λ (v : Lexed). AreTokens v.text v.tokens) c.self.view_is c.self.invariant

pub returns-clause-within : goal.returns-clause-within
returns-clause-within c = lie_within _ _ (lexed c)

pub returns-clause-ordered : goal.returns-clause-ordered
returns-clause-ordered c = are_ordered _ _ (lexed c)

pub returns-clause-back : goal.returns-clause-back
returns-clause-back c = mates_lead_back _ _ (lexed c)

pub returns-clause-behind : goal.returns-clause-behind
returns-clause-behind c = mates_are_behind _ _ (lexed c)
