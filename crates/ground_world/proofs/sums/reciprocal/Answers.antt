use Rattle.std.proofs.Common.{◌≡◌, sym, ap, refl, ◌∙◌, true, false}
use Rattle.rational.specs.Rational.{zeroℚ, inverse, reciprocal, whole, ratio}
use Rattle.rational.specs.Gcd.{gcd}
use Rattle.exact_lin.specs.Forms.{is_zero}
use Rattle.exact_lin.proofs.Zeros.{is_zero-zero, zero-is_zero}
use Rattle.ground_world.proofs.sums.reciprocal.Goals as goal

inverse-zero : inverse zeroℚ ≡ zeroℚ
unfolding inverse reciprocal whole ratio gcd
inverse-zero = refl

pub returns-then-is_zero : goal.returns-then-is_zero
returns-then-is_zero c =
    let zero : c.args.number ≡ zeroℚ = zero-is_zero c.args.number (sym c.is_zero.ensures.value ∙ c.if-is_zero.true) in
    zero ∙ sym inverse-zero ∙ ap inverse (sym zero)

pub recip-requires : goal.recip-requires
recip-requires c = λ zero.
    let h : is_zero c.args.number ≡ true = is_zero-zero c.args.number zero in
    let k : is_zero c.args.number ≡ false = sym c.is_zero.ensures.value ∙ c.if-is_zero.false in
    cc
