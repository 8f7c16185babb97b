use Rattle.std.proofs.Common.{◌≡◌, suc, ◌-◌, arith, add-one, subst}
use Rattle.sexpr_text.proofs.Heights.{StaysTo, stays_open, stays_close, stays_over, opened-le, step_close, nothing_no_parentheses, run_no_parentheses}
use Rattle.sexpr_text.proofs.scan.all_close.Goals as goal

pub overflow_add-depth : goal.overflow_add-depth
overflow_add-depth c =
    let open_lists = opened-le c.args.text.now c.loop-at.at in
    omega (arith, c.loop-at.invariant.stays.counted)

pub loop-at-preserved-in-Open-1 : goal.loop-at-preserved-in-Open-1
loop-at-preserved-in-Open-1 c = simp add-one (record {
  within = omega arith;
  clear = c.in-Open.ensures.1;
  stays = stays_open _ _ _ _ c.loop-at.invariant.stays c.in-Open.ensures.0;
})

pub returns-then-depth-eq1 : goal.returns-then-depth-eq1
returns-then-depth-eq1 c =
    let step = step_close c.args.text.now c.loop-at.at c.in-Close.ensures.0 in
    (suc c.loop-at.at, omega (arith, c.loop-at.invariant.stays.after), omega (arith, c.loop-at.invariant.stays.counted, c.if-depth-eq1.true))

pub loop-at-preserved-in-Close-1 : goal.loop-at-preserved-in-Close-1
loop-at-preserved-in-Close-1 c =
    let some = c.loop-at.invariant.stays.some in
    let e : c.loop-at.depth ≡ suc (c.loop-at.depth - 1) = omega arith in
    rw add-one (record {
      within = omega arith;
      clear = c.in-Close.ensures.1;
      stays = stays_close _ _ _ _ (subst (StaysTo c.args.text.now c.args.from c.loop-at.at) e c.loop-at.invariant.stays) c.in-Close.ensures.0 (omega (arith, c.if-depth-eq1.false));
    })

pub loop-at-preserved-in-Gap : goal.loop-at-preserved-in-Gap
loop-at-preserved-in-Gap c = record {
  within = c.in-Gap.ensures.within;
  clear = c.in-Gap.ensures.clear;
  stays = stays_over _ _ _ _ _ c.loop-at.invariant.stays (omega (arith, c.in-Gap.ensures.some)) (nothing_no_parentheses _ _ _ c.in-Gap.ensures.nothing);
}

pub loop-at-preserved : goal.loop-at-preserved
loop-at-preserved c = record {
  within = c.in-Gap.ensures.1;
  clear = c.in-Gap.ensures.2;
  stays = stays_over _ _ _ _ _ c.loop-at.invariant.stays (omega (arith, c.in-Gap.ensures.0.some)) (run_no_parentheses _ _ _ c.in-Gap.ensures.0);
}
