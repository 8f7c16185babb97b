use Rattle.std.proofs.Common.{sym, subst, ◌+◌}
use Rattle.rational.specs.Rational.{zeroℚ, ◌<ℚ◌}
use Rattle.lp_tableau.specs.Places.{FindsFirst, IsLesser}
use Rattle.lp_tableau.specs.Chains.{IsCheaper}
use Rattle.lp_tableau.specs.Tableaus.{dictionary_of}
use Rattle.lp_tableau.proofs.Firsts.{Chosen, FindsFirst-skip, least-take}
use Rattle.lp_tableau.proofs.rules.entering_cost.Goals as goal
use Rattle.lp_tableau.proofs.rules.entering_cost.Goals.{then-is_negative, else-is_negative}

pub loop-j-preserved : goal.loop-j-preserved
loop-j-preserved g c = elim c.if-is_negative.branch [
  | then-is_negative w ↦ subst (λ b. FindsFirst (IsCheaper (dictionary_of g.S.Scalar.value c.args.t.now)) (IsLesser c.args.t.now.nonbasic.items) (c.loop-j.j + 1) b) (sym w.best-is) (least-take (IsCheaper (dictionary_of g.S.Scalar.value c.args.t.now)) c.args.t.now.nonbasic.items c.loop-j.best c.loop-j.j w.lesser.result (subst (λ z. z <ℚ zeroℚ) c.cost_entry.ensures (w.if-is_negative.ensures {u = tt})) (subst (λ xs. Chosen (IsLesser xs) c.loop-j.best c.loop-j.j w.lesser.result) w.deref.ensures.value w.lesser.ensures) c.loop-j.invariant)
  | else-is_negative w ↦ subst (λ b. FindsFirst (IsCheaper (dictionary_of g.S.Scalar.value c.args.t.now)) (IsLesser c.args.t.now.nonbasic.items) (c.loop-j.j + 1) b) (sym w.best-is) (FindsFirst-skip (IsCheaper (dictionary_of g.S.Scalar.value c.args.t.now)) (IsLesser c.args.t.now.nonbasic.items) c.loop-j.best c.loop-j.j (λ h. (w.if-is_negative.ensures {u = tt}).1 (subst (λ z. z <ℚ zeroℚ) (sym c.cost_entry.ensures) h)) c.loop-j.invariant)
]
