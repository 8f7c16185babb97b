use Rattle.std.proofs.Common.{suc, ◌++◌, arith, add-one}
use Rattle.plan_text.proofs.Comparing.{next_kept, stays_greater}
use Rattle.plan_text.proofs.compare.compare.Goals as goal

pub returns-then-difference : goal.returns-then-difference
returns-then-difference c =
    let ns = c.args.n.now.front.now ++ c.args.n.now.back.now in
    let ds = c.args.d.now.front.now ++ c.args.d.now.back.now in
    let kept = next_kept _ _ _ _ _ _ _ _ _ _ _ _ c.loop-i.invariant.value c.next-difference.ensures.value c.aligned-in-loop-i.ensures.value c.aligned.ensures.value in
    stays_greater ns ds c.max-total.result (suc c.loop-i.i) c.args.p c.args.q c.requires.n c.requires.d (omega (arith, c.max-total.ensures, c.len.ensures, c.len-2.ensures)) (omega (arith, c.max-total.ensures, c.len.ensures, c.len-2.ensures)) (omega (arith, c.loop-i-test.true)) c.requires.q (omega (arith, c.if-difference.true))

pub returns-then-difference-2 : goal.returns-then-difference-2
returns-then-difference-2 c =
    let ns = c.args.n.now.front.now ++ c.args.n.now.back.now in
    let ds = c.args.d.now.front.now ++ c.args.d.now.back.now in
    let kept = next_kept _ _ _ _ _ _ _ _ _ _ _ _ c.loop-i.invariant.value c.next-difference.ensures.value c.aligned-in-loop-i.ensures.value c.aligned.ensures.value in
    stays_greater ds ns c.max-total.result (suc c.loop-i.i) c.args.q c.args.p c.requires.d c.requires.n (omega (arith, c.max-total.ensures, c.len.ensures, c.len-2.ensures)) (omega (arith, c.max-total.ensures, c.len.ensures, c.len-2.ensures)) (omega (arith, c.loop-i-test.true)) c.requires.p (omega (arith, c.if-difference-2.true, c.next-difference.ensures.low))

pub loop-i-preserved : goal.loop-i-preserved
loop-i-preserved c =
    let kept = next_kept _ _ _ _ _ _ _ _ _ _ _ _ c.loop-i.invariant.value c.next-difference.ensures.value c.aligned-in-loop-i.ensures.value c.aligned.ensures.value in
    simp add-one (record {
      near = record { rest = c.next-difference.ensures.low; above = omega (arith, c.if-difference-2.false); below = omega (arith, c.if-difference.false) };
      value = kept;
    })
