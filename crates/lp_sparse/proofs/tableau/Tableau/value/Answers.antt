use Rattle.std.proofs.Common.{◌≡◌, ℕ, ◌∙◌, sym, subst, length, arith}
use Rattle.rational.specs.Lists.{at}
use Rattle.exact_lin.specs.Forms.{coefficient}
use Rattle.lp_sparse.specs.SparseRows.{terms_of}
use Rattle.lp_sparse.specs.SparseTableaus.{dictionary_of}
use Rattle.lp_sparse.proofs.RowReads.{cost-at}
use Rattle.lp_sparse.proofs.tableau.Tableau.value.Goals as goal

pub returns : goal.returns
returns g c = c.last_in.ensures ∙ subst (λ (n : ℕ). coefficient (terms_of g.S.Scalar.value c.deref.result.now) n ≡ at (dictionary_of g.S.Scalar.value c.args.self.now).cost (length c.args.self.now.nonbasic.items)) (sym (c.len.ensures ∙ c.args.self.now.nonbasic.ok.0))
    (cost-at g.S.Scalar.value g.S.Scalar.limit c.args.self.now c.requires (length c.args.self.now.nonbasic.items) c.deref.result.now (omega arith) c.deref.ensures.value)
