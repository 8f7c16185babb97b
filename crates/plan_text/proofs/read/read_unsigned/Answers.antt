use Rattle.std.proofs.Common.{length, true-eqb, false-eqb, pos_of_ne-zero}
use Rattle.plan_text.proofs.ReadingLemmas.{reads_none, reads_whole, reads_marked}
use Rattle.plan_text.proofs.read.read_unsigned.Goals as goal

pub returns-then-is_empty : goal.returns-then-is_empty
returns-then-is_empty c = reads_none _ _ c.split_digits.ensures.front (true-eqb _ _ c.if-is_empty.ensures)

pub returns-in-None : goal.returns-in-None
returns-in-None c =
    let split = c.split_digits.ensures in
    let other = false-eqb (length c.split_digits.result.0.now) 0 c.if-is_empty.ensures in
    reads_whole _ _ _ _ split.front split.rest (pos_of_ne-zero other) c.in-None.ensures.cases c.read_whole.ensures

pub returns-in-Some : goal.returns-in-Some
returns-in-Some c =
    let split = c.split_digits.ensures in
    let other = false-eqb (length c.split_digits.result.0.now) 0 c.if-is_empty.ensures in
    reads_marked _ _ _ c.in-Some.mark.now c.in-Some.more.now _ split.front split.rest (pos_of_ne-zero other) c.in-Some.ensures.cases.0 c.read_marked.ensures
