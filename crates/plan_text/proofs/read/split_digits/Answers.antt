use Rattle.std.proofs.Common.{sym, subst, take, drop}
use Rattle.plan_text.specs.Reading.{front_of}
use Rattle.plan_text.specs.Quotients.{AreDigits}
use Rattle.plan_text.proofs.ReadingLemmas.{front_digits, digits_front}
use Rattle.plan_text.proofs.read.split_digits.Goals as goal

pub returns-clause-digits : goal.returns-clause-digits
returns-clause-digits c =
    let all = subst AreDigits (sym c.loop-n.invariant.front) (front_digits c.args.text.now) in
    subst AreDigits (sym c.split_at.ensures.front) (digits_front (take c.loop-n.n c.args.text.now) (front_of (drop c.loop-n.n c.args.text.now)) all)
