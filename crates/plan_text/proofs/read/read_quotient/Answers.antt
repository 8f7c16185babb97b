use Rattle.std.proofs.Common.{append-nil, sym, ◌∙◌}
use Rattle.std.proofs.lemmas.Bool.{and_from, and_left, and_right, ltb-true}
use Rattle.basics.specs.Texts.{number}
use Rattle.plan_text.proofs.ReadingLemmas.{above_zero, is_digits_all, gives_if, gives_none}
use Rattle.plan_text.proofs.read.read_quotient.Goals as goal
use Rattle.plan_text.proofs.read.read_quotient.Goals.{then-not-is_digits-via-then-not-is_digits, then-not-is_digits-via-else-not-is_digits+then-not-has_digit_above_zero}

pub returns-then-not-is_digits : goal.returns-then-not-is_digits
returns-then-not-is_digits c =
    elim c.then-not-is_digits.branch [
      | then-not-is_digits-via-then-not-is_digits w ↦ gives_none _ _ _ (and_left _ _ (sym c.is_digits.ensures ∙ w.if-not-is_digits.true))
      | then-not-is_digits-via-else-not-is_digits+then-not-has_digit_above_zero w ↦
          let digits = sym c.is_digits.ensures ∙ w.if-not-is_digits.false in
          gives_none _ _ _ (and_right _ _ (sym (above_zero c.args.below.now (is_digits_all c.args.below.now digits)) ∙ sym w.has_digit_above_zero.ensures ∙ w.if-not-has_digit_above_zero.true))
    ]

pub quotient-requires-clause-some : goal.quotient-requires-clause-some
quotient-requires-clause-some c =
    let some = sym (above_zero c.args.below.now (is_digits_all c.args.below.now (sym c.if-not-is_digits.ensures))) ∙ sym c.if-not-has_digit_above_zero.ensures in
    rw append-nil (ltb-true 0 (number c.args.below.now) some)

pub returns : goal.returns
returns c =
    let digits = sym c.if-not-is_digits.ensures in
    let some = sym (above_zero c.args.below.now (is_digits_all c.args.below.now digits)) ∙ sym c.if-not-has_digit_above_zero.ensures in
    gives_if _ _ _ _ (and_from _ _ digits some) (simp append-nil at c.quotient.ensures)
