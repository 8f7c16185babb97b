use Rattle.std.proofs.Common.{◌≡◌, sym, subst, ◌+◌, length, arith}
use Rattle.lp_sparse.proofs.RowReads.{rows-length}
use Rattle.rational.specs.Rational.{zeroℚ, ◌<ℚ◌}
use Rattle.lp_tableau.specs.Places.{FindsFirst, IsLesser}
use Rattle.lp_tableau.specs.Chains.{IsNegative}
use Rattle.lp_sparse.specs.SparseTableaus.{dictionary_of}
use Rattle.lp_tableau.proofs.Firsts.{Chosen, FindsFirst-skip, least-take}
use Rattle.lp_sparse.proofs.rules.leaving.Goals as goal
use Rattle.lp_sparse.proofs.rules.leaving.Goals.{then-is_negative, else-is_negative}

pub loop-i-preserved : goal.loop-i-preserved
loop-i-preserved g c = elim c.if-is_negative.branch [
  | then-is_negative w ↦ subst (λ b. FindsFirst (IsNegative (dictionary_of g.S.Scalar.value c.args.t.now)) (IsLesser c.args.t.now.basic.items) (c.loop-i.i + 1) b) (sym w.best-is) (least-take (IsNegative (dictionary_of g.S.Scalar.value c.args.t.now)) c.args.t.now.basic.items c.loop-i.best c.loop-i.i w.lesser.result (subst (λ z. z <ℚ zeroℚ) c.constant.ensures (w.if-is_negative.ensures {u = tt})) (subst (λ xs. Chosen (IsLesser xs) c.loop-i.best c.loop-i.i w.lesser.result) w.deref.ensures.value w.lesser.ensures) c.loop-i.invariant)
  | else-is_negative w ↦ subst (λ b. FindsFirst (IsNegative (dictionary_of g.S.Scalar.value c.args.t.now)) (IsLesser c.args.t.now.basic.items) (c.loop-i.i + 1) b) (sym w.best-is) (FindsFirst-skip (IsNegative (dictionary_of g.S.Scalar.value c.args.t.now)) (IsLesser c.args.t.now.basic.items) c.loop-i.best c.loop-i.i (λ h. (w.if-is_negative.ensures {u = tt}).1 (subst (λ z. z <ℚ zeroℚ) (sym c.constant.ensures) h)) c.loop-i.invariant)
]

pub returns : goal.returns
returns g c = subst (λ n. FindsFirst (IsNegative (dictionary_of g.S.Scalar.value c.args.t.now)) (IsLesser c.args.t.now.basic.items) n c.loop-i.best) (let e : c.loop-i.i ≡ length (dictionary_of g.S.Scalar.value c.args.t.now).rows = omega (arith, rows-length g.S.Scalar.value c.args.t.now) in e) c.loop-i.invariant
