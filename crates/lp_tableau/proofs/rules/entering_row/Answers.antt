use Rattle.std.proofs.Common.{sym, subst, ◌+◌}
use Rattle.rational.specs.Rational.{zeroℚ, ◌<ℚ◌}
use Rattle.lp_tableau.specs.Places.{FindsFirst, IsLesser}
use Rattle.lp_tableau.specs.Chains.{IsRaising}
use Rattle.lp_tableau.specs.Tableaus.{dictionary_of}
use Rattle.lp_tableau.proofs.Firsts.{Chosen, FindsFirst-skip, least-take}
use Rattle.lp_tableau.proofs.rules.entering_row.Goals as goal
use Rattle.lp_tableau.proofs.rules.entering_row.Goals.{then-is_positive, else-is_positive}

pub loop-j-preserved : goal.loop-j-preserved
loop-j-preserved g c = elim c.if-is_positive.branch [
  | then-is_positive w ↦ subst (λ b. FindsFirst (IsRaising (dictionary_of g.S.Scalar.value c.args.t.now) c.args.i) (IsLesser c.args.t.now.nonbasic.items) (c.loop-j.j + 1) b) (sym w.best-is) (least-take (IsRaising (dictionary_of g.S.Scalar.value c.args.t.now) c.args.i) c.args.t.now.nonbasic.items c.loop-j.best c.loop-j.j w.lesser.result (subst (λ z. zeroℚ <ℚ z) c.entry.ensures (w.if-is_positive.ensures {u = tt})) (subst (λ xs. Chosen (IsLesser xs) c.loop-j.best c.loop-j.j w.lesser.result) w.deref.ensures.value w.lesser.ensures) c.loop-j.invariant)
  | else-is_positive w ↦ subst (λ b. FindsFirst (IsRaising (dictionary_of g.S.Scalar.value c.args.t.now) c.args.i) (IsLesser c.args.t.now.nonbasic.items) (c.loop-j.j + 1) b) (sym w.best-is) (FindsFirst-skip (IsRaising (dictionary_of g.S.Scalar.value c.args.t.now) c.args.i) (IsLesser c.args.t.now.nonbasic.items) c.loop-j.best c.loop-j.j (λ h. (w.if-is_positive.ensures {u = tt}).1 (subst (λ z. zeroℚ <ℚ z) (sym c.entry.ensures) h)) c.loop-j.invariant)
]
