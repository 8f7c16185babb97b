use Rattle.std.proofs.Common.{◌+◌, ◌-◌, ◌/◌, arith}
use Rattle.exact_lin.proofs.Places.{shown-place_end, shown-place_within, shown-place_beyond, shown-place_before}
use Rattle.exact_lin.proofs.terms.place_of.Goals as goal

pub returns-then-number : goal.returns-then-number
returns-then-number g c = shown-place_end _ _ _ _ _ _ c.in-Some.ensures.cases.0 c.requires (omega (arith, c.number.ensures, c.if-number.true))

pub loop-low-init : goal.loop-low-init
loop-low-init g c = (omega arith, shown-place_within g.V.Id.number_of g.S.Scalar.value c.args.number c.args.terms.now, omega arith)

pub loop-low-preserved-then-number-2 : goal.loop-low-preserved-then-number-2
loop-low-preserved-then-number-2 g c =
    let beyond = shown-place_beyond g.V.Id.number_of g.S.Scalar.value c.args.number c.args.terms.now (c.loop-low.low + (c.loop-low.high - c.loop-low.low) / 2) c.index-terms-middle.result
    (omega (arith, c.loop-low-test.true, c.loop-low.invariant.2)) c.requires (omega (arith, c.number-in-loop-low.ensures, c.if-number-2.true)) in
    (omega (arith, beyond), c.loop-low.invariant.1, c.loop-low.invariant.2)

pub loop-low-preserved : goal.loop-low-preserved
loop-low-preserved g c = (
  c.loop-low.invariant.0,
  shown-place_before g.V.Id.number_of g.S.Scalar.value c.args.number c.args.terms.now (c.loop-low.low + (c.loop-low.high - c.loop-low.low) / 2) c.index-terms-middle.result
      (omega (arith, c.loop-low-test.true, c.loop-low.invariant.2)) (omega (arith, c.number-in-loop-low.ensures, c.if-number-2.false)),
  omega (arith, c.loop-low-test.true, c.loop-low.invariant.2),
)
