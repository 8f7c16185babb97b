use Rattle.std.proofs.Common.{◌≡◌, sym, subst, ◌+◌, length, arith}
use Rattle.lp_sparse.proofs.RowReads.{rows-length}
use Rattle.lp_sparse.specs.SparseTableaus.{dictionary_of}
use Rattle.lp_tableau.proofs.Ratios.{AreTightest, AreTightest-take, AreTightest-skip, Better}
use Rattle.rational.specs.Rational.{zeroℚ, ◌<ℚ◌}
use Rattle.lp_sparse.proofs.rules.tightest.Goals as goal
use Rattle.lp_sparse.proofs.rules.tightest.Goals.{then-is_negative+in-Ok, else-is_negative}

pub loop-i-preserved : goal.loop-i-preserved
loop-i-preserved g c = elim c.if-is_negative.branch [
  | then-is_negative+in-Ok w ↦ subst (λ b. AreTightest (dictionary_of g.S.Scalar.value c.args.t.now) c.args.j g.S.Scalar.value g.S.Scalar.limit b (c.loop-i.i + 1)) (sym w.best-is) (AreTightest-take (dictionary_of g.S.Scalar.value c.args.t.now) c.args.j g.S.Scalar.value g.S.Scalar.limit c.loop-i.best c.loop-i.i w.in-Ok.ratio w.tighter.result (subst (λ z. z <ℚ zeroℚ) c.entry.ensures (w.if-is_negative.ensures {u = tt})) (w.in-Ok.ensures {u = tt}) (subst (λ xs. Better (dictionary_of g.S.Scalar.value c.args.t.now) c.args.j g.S.Scalar.value g.S.Scalar.limit xs c.loop-i.best c.loop-i.i w.in-Ok.ratio w.tighter.result) w.deref.ensures.value w.tighter.ensures) c.loop-i.invariant)
  | else-is_negative w ↦ subst (λ b. AreTightest (dictionary_of g.S.Scalar.value c.args.t.now) c.args.j g.S.Scalar.value g.S.Scalar.limit b (c.loop-i.i + 1)) (sym w.best-is) (AreTightest-skip (dictionary_of g.S.Scalar.value c.args.t.now) c.args.j g.S.Scalar.value g.S.Scalar.limit c.loop-i.best c.loop-i.i (λ h. (w.if-is_negative.ensures {u = tt}).1 (subst (λ z. z <ℚ zeroℚ) (sym c.entry.ensures) h)) c.loop-i.invariant)
]

pub returns : goal.returns
returns g c =
    let d = dictionary_of g.S.Scalar.value c.args.t.now in
    let w = subst (λ n. AreTightest d c.args.j g.S.Scalar.value g.S.Scalar.limit c.loop-i.best n) (let e : c.loop-i.i ≡ length d.rows = omega (arith, rows-length g.S.Scalar.value c.args.t.now) in e) c.loop-i.invariant in
    (w.defined, w.first)
