use Rattle.std.proofs.Common.{arith, subst, ◌∙◌, ◌≡◌, ℕ, length}
use Rattle.lp_tableau.proofs.LookedUp.{IsPut}
use Rattle.lp_sparse.specs.SparseTableaus.{dictionary_of}
use Rattle.lp_sparse.proofs.ResultSteps.{dual-next, dual-all}
use Rattle.lp_sparse.proofs.results.write_dual.Goals as goal

pub loop-j-preserved : goal.loop-j-preserved
loop-j-preserved g c = dual-next g.T.Scalar.value (dictionary_of g.S.Scalar.value c.args.t.now) c.requires.dictionary _ c.loop-j.j c.index.result.now _ c.loop-j.out c.put.new.out (omega arith) c.index.ensures (c.read_as.ensures ∙ c.cost_entry.ensures) c.put.ensures.length
    (subst (λ (s : ℕ). IsPut g.T.Scalar.value s c.index.result.now (g.T.Scalar.value c.read_as.result) c.loop-j.out c.put.new.out) (let e : c.len.result ≡ length c.args.t.now.nonbasic.items = c.len.ensures ∙ c.args.t.now.nonbasic.ok.0 in e) c.put.ensures.value) c.loop-j.invariant

pub returns : goal.returns
returns g c = dual-all g.T.Scalar.value (dictionary_of g.S.Scalar.value c.args.t.now) c.requires.dictionary c.loop-j.out c.loop-j.j (omega arith) c.loop-j.invariant
