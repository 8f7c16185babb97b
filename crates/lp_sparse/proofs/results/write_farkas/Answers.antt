use Rattle.std.proofs.Common.{arith, subst, ◌∙◌, ◌≡◌, ◌<◌, ℕ, length}
use Rattle.lp_tableau.proofs.LookedUp.{IsPut}
use Rattle.lp_sparse.specs.SparseTableaus.{dictionary_of}
use Rattle.lp_sparse.proofs.ResultSteps.{farkas-next, farkas-all}
use Rattle.lp_sparse.proofs.results.write_farkas.Goals as goal

pub loop-j-preserved : goal.loop-j-preserved
loop-j-preserved g c = farkas-next g.T.Scalar.value (dictionary_of g.S.Scalar.value c.args.t.now) c.requires.dictionary c.args.i c.requires.row _ c.loop-j.j c.index-in-loop-j.result.now _ _ c.loop-j.out c.put-in-loop-j.new.out (omega arith) c.index-in-loop-j.ensures (c.read_as.ensures ∙ c.neg.ensures) c.entry.ensures c.put-in-loop-j.ensures.length
    (subst (λ (s : ℕ). IsPut g.T.Scalar.value s c.index-in-loop-j.result.now (g.T.Scalar.value c.read_as.result) c.loop-j.out c.put-in-loop-j.new.out) (let e : c.len-in-loop-j.result ≡ length c.args.t.now.nonbasic.items = c.len-in-loop-j.ensures ∙ c.args.t.now.nonbasic.ok.0 in e) c.put-in-loop-j.ensures.value) c.loop-j.invariant

pub returns : goal.returns
returns g c = farkas-all g.T.Scalar.value (dictionary_of g.S.Scalar.value c.args.t.now) c.requires.dictionary c.args.i c.requires.row c.loop-j.out c.loop-j.j (omega arith) c.loop-j.invariant
