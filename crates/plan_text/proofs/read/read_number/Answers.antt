use Rattle.std.proofs.Common.{ℕ, ◌∷◌, ap, ◌∙◌}
use Rattle.plan_text.proofs.ReadingLemmas.{IsRead, minus_read, plain_read}
use Rattle.plan_text.proofs.read.read_number.Goals as goal
use Rattle.plan_text.proofs.read.read_number.Goals.{After-read_negative, After-read_unsigned}

negative : (c : After-read_negative) → IsRead c.args.text.now c.read_negative.result
negative c =
    minus_read c.args.text.now c.in-Some.rest.now c.read_negative.result (c.in-Some.ensures.cases.0 ∙ ap (λ (b : ℕ). b ∷ c.in-Some.rest.now) c.if-first-eq45.true) c.read_negative.ensures

plain : (c : After-read_unsigned) → IsRead c.args.text.now c.read_unsigned.result
plain c = plain_read c.args.text.now c.in-Some.first.now c.in-Some.rest.now c.read_unsigned.result c.in-Some.ensures.cases.0 c.if-first-eq45.false c.read_unsigned.ensures

pub returns-then-first-eq45-clause-spells : goal.returns-then-first-eq45-clause-spells
returns-then-first-eq45-clause-spells c = (negative c).spells

pub returns-then-first-eq45-clause-read : goal.returns-then-first-eq45-clause-read
returns-then-first-eq45-clause-read c = (negative c).read

pub returns-else-first-eq45-clause-spells : goal.returns-else-first-eq45-clause-spells
returns-else-first-eq45-clause-spells c = (plain c).spells

pub returns-else-first-eq45-clause-read : goal.returns-else-first-eq45-clause-read
returns-else-first-eq45-clause-read c = (plain c).read
