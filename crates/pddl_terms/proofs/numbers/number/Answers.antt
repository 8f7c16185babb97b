use Rattle.std.proofs.Common.{◌∙◌, sym, arith}
use Rattle.std.proofs.Math.Facts.{Fits-of_lt}
use Rattle.pddl_terms.proofs.Digits.{next-fits, reads-digit}
use Rattle.pddl_terms.proofs.numbers.number.Goals as goal

pub overflow_mul-number : goal.overflow_mul-number
overflow_mul-number c =
    let next = next-fits _ _ _ _ _ c.in-Some.ensures.cases.0 c.loop-byte.invariant (sym c.is_ascii_digit.ensures.value ∙ c.if-is_ascii_digit.true) c.requires in
    Fits-of_lt (omega (arith, next))

pub overflow_add-number : goal.overflow_add-number
overflow_add-number c =
    let next = next-fits _ _ _ _ _ c.in-Some.ensures.cases.0 c.loop-byte.invariant (sym c.is_ascii_digit.ensures.value ∙ c.if-is_ascii_digit.true) c.requires in
    Fits-of_lt (omega (arith, next))

pub loop-byte-preserved-then-is_ascii_digit : goal.loop-byte-preserved-then-is_ascii_digit
loop-byte-preserved-then-is_ascii_digit c = reads-digit _ _ _ _ _ c.in-Some.ensures.cases.0 c.loop-byte.invariant (sym c.is_ascii_digit.ensures.value ∙ c.if-is_ascii_digit.true)
