use Rattle.std.proofs.Common.{ℕ, ◌+◌, ◌-◌, ◌/◌, arith}
use Rattle.exact_lin.proofs.Places.{shown-place_within, shown-place_beyond, shown-place_before}
use Rattle.lp_sparse.proofs.rows.place_of.Goals as goal

pub loop-low-init : goal.loop-low-init
loop-low-init g c = (omega arith, shown-place_within (λ (n : ℕ). n) g.S.Scalar.value c.args.column c.args.row.now, omega arith)

pub loop-low-preserved-then-row-middle : goal.loop-low-preserved-then-row-middle
loop-low-preserved-then-row-middle g c =
    let beyond = shown-place_beyond (λ (n : ℕ). n) g.S.Scalar.value c.args.column c.args.row.now (c.loop-low.low + (c.loop-low.high - c.loop-low.low) / 2) c.index-row-middle.result
    (omega (arith, c.loop-low-test.true, c.loop-low.invariant.2)) c.requires (omega arith) in
    (omega (arith, beyond), c.loop-low.invariant.1, c.loop-low.invariant.2)

pub loop-low-preserved : goal.loop-low-preserved
loop-low-preserved g c = (
  c.loop-low.invariant.0,
  shown-place_before (λ (n : ℕ). n) g.S.Scalar.value c.args.column c.args.row.now (c.loop-low.low + (c.loop-low.high - c.loop-low.low) / 2) c.index-row-middle.result
      (omega (arith, c.loop-low-test.true, c.loop-low.invariant.2)) (omega arith),
  omega (arith, c.loop-low-test.true, c.loop-low.invariant.2),
)
