use Rattle.std.proofs.Common.{◌<◌, ◌≤◌, ◌++◌, length, Some, arith, sym, subst, le-leb}
use Rattle.std.proofs.lemmas.Bool.{and_from}
use Rattle.basics.specs.Texts.{number}
use Rattle.plan_text.specs.Reading.{Gives}
use Rattle.plan_text.proofs.Printing.{ten_pos}
use Rattle.plan_text.proofs.ReadingLemmas.{ten_of_zeros, zeros_digits, gives_if}
use Rattle.plan_text.proofs.read.read_decimal.Goals as goal

pub quotient-requires-clause-some : goal.quotient-requires-clause-some
quotient-requires-clause-some c =
    let ten = ten_of_zeros (length c.args.places.now) (omega (arith, c.if-places-gt-MAX_PLACES.false)) in
    let some = ten_pos (length c.args.places.now) in
    subst (λ n. 0 < n) (sym ten) some

pub quotient-requires-clause-d : goal.quotient-requires-clause-d
quotient-requires-clause-d c = zeros_digits (length c.args.places.now) (omega (arith, c.if-places-gt-MAX_PLACES.false))

pub returns : goal.returns
returns c =
    let few : length c.args.places.now ≤ 18 = omega (arith, c.if-places-gt-MAX_PLACES.false) in
    gives_if _ _ _ _ (and_from _ _ (sym c.if-not-is_digits.ensures) (le-leb (length c.args.places.now) 18 few))
    (subst (λ d. Gives (Some (number (c.args.front.now ++ c.args.places.now), d)) c.quotient.result) (ten_of_zeros (length c.args.places.now) few) c.quotient.ensures)
