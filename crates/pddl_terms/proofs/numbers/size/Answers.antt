use Rattle.std.proofs.Common.{◌∙◌, sym, arith, subst, ap, ◌<◌}
use Rattle.std.proofs.Math.Facts.{Fits-of_lt}
use Rattle.basics.specs.Texts.{digit_count}
use Rattle.pddl_terms.proofs.Digits.{count-behind_point, power-fits, power-some}
use Rattle.pddl_terms.proofs.numbers.size.Goals as goal

pub overflow_cast-digit_count : goal.overflow_cast-digit_count
overflow_cast-digit_count c =
    let few = count-behind_point c.args.bytes.now in
    let same = c.digit_count.ensures ∙ ap digit_count c.behind_point.ensures in
    Fits-of_lt (omega (arith, few, same, c.requires))

pub pow-scale-requires : goal.pow-scale-requires
pow-scale-requires c =
    let few = count-behind_point c.args.bytes.now in
    let same = c.digit_count.ensures ∙ ap digit_count c.behind_point.ensures in
    let power = power-fits c.digit_count.result (omega (arith, few, same, c.requires)) in
    omega (arith, power)

pub quotient-requires : goal.quotient-requires
quotient-requires c = subst (λ n. 0 < n) (sym c.pow-scale.ensures) (power-some c.digit_count.result)
