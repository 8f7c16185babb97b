use Rattle.std.proofs.Common.{◌≡◌, ◌∙◌, sym, ap}
use Rattle.std.specs.Prelude.{unwrap_or}
use Rattle.rational.specs.Rational.{zeroℚ, ◌+ℚ◌}
use Rattle.rational.proofs.Field.{add_comm, zero_add}
use Rattle.metric_cost.proofs.total_time.end_of.Goals as goal

pub returns-in-None : goal.returns-in-None
returns-in-None c = sym (ap (λ d. c.args.line.now.at +ℚ unwrap_or d zeroℚ) c.in-None.is ∙ add_comm c.args.line.now.at zeroℚ ∙ zero_add c.args.line.now.at)
