use Rattle.std.proofs.Common.{arith, subst, ◌∙◌, ◌≡◌, ℕ, length}
use Rattle.lp_tableau.proofs.LookedUp.{IsPut}
use Rattle.lp_tableau.proofs.ResultSteps.{farkas-next, farkas-all}
use Rattle.lp_tableau.proofs.results.write_farkas.Goals as goal

pub loop-j-preserved : goal.loop-j-preserved
loop-j-preserved g c = farkas-next g.S.Scalar.value c.args.t.now c.requires.dictionary c.args.i c.requires.row (length c.args.t.now.nonbasic.items) _ c.loop-j.j c.index-in-loop-j.result.now _ _ c.loop-j.out c.put-in-loop-j.new.out (omega arith) c.index-in-loop-j.ensures c.neg.ensures c.entry.ensures c.put-in-loop-j.ensures.length
    (subst (λ (s : ℕ). IsPut g.S.Scalar.value s c.index-in-loop-j.result.now (g.S.Scalar.value c.neg.result) c.loop-j.out c.put-in-loop-j.new.out) (let e : c.len-in-loop-j.result ≡ length c.args.t.now.nonbasic.items = c.len-in-loop-j.ensures ∙ c.args.t.now.nonbasic.ok.0 in e) c.put-in-loop-j.ensures.value) c.loop-j.invariant

pub returns : goal.returns
returns g c = farkas-all g.S.Scalar.value c.args.t.now c.requires.dictionary c.args.i c.requires.row c.loop-j.out c.loop-j.j (omega arith) c.loop-j.invariant
