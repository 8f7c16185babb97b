use Rattle.std.proofs.Common.{◌≡◌, ℕ, ◌+◌, ◌∙◌, sym, subst, length, arith}
use Rattle.rational.specs.Lists.{at}
use Rattle.exact_lin.specs.Forms.{Covers, coefficient}
use Rattle.lp_tableau.specs.Dictionaries.{row_of}
use Rattle.lp_sparse.specs.SparseRows.{terms_of}
use Rattle.lp_sparse.specs.SparseTableaus.{dictionary_of}
use Rattle.lp_sparse.proofs.RowReads.{terms_in-read, read-is, read-at}
use Rattle.lp_sparse.proofs.tableau.Tableau.constant.Goals as goal

pub last_in-requires-clause-ascends : goal.last_in-requires-clause-ascends
last_in-requires-clause-ascends g c = (read-is g.S.Scalar.value g.S.Scalar.limit c.args.self.now c.requires.rows c.args.i c.deref.result.now c.requires.row
    (terms_in-read g.S.Scalar.value c.args.self.now.rows.items c.args.i c.index.result.now c.deref.result.now c.requires.row c.index.ensures c.deref.ensures.value)).sparse.ascends

pub last_in-requires-clause-covered : goal.last_in-requires-clause-covered
last_in-requires-clause-covered g c = subst (λ (n : ℕ). Covers (n + 1) (terms_of g.S.Scalar.value c.deref.result.now)) (sym (c.len.ensures ∙ c.args.self.now.nonbasic.ok.0))
    ((read-is g.S.Scalar.value g.S.Scalar.limit c.args.self.now c.requires.rows c.args.i c.deref.result.now c.requires.row
    (terms_in-read g.S.Scalar.value c.args.self.now.rows.items c.args.i c.index.result.now c.deref.result.now c.requires.row c.index.ensures c.deref.ensures.value)).sparse.covered)

pub returns : goal.returns
returns g c = c.last_in.ensures ∙ subst (λ (n : ℕ). coefficient (terms_of g.S.Scalar.value c.deref.result.now) n ≡ at (row_of (dictionary_of g.S.Scalar.value c.args.self.now) c.args.i) (length c.args.self.now.nonbasic.items)) (sym (c.len.ensures ∙ c.args.self.now.nonbasic.ok.0))
    (read-at g.S.Scalar.value g.S.Scalar.limit c.args.self.now c.requires.rows c.args.i c.deref.result.now c.requires.row
    (terms_in-read g.S.Scalar.value c.args.self.now.rows.items c.args.i c.index.result.now c.deref.result.now c.requires.row c.index.ensures c.deref.ensures.value) (length c.args.self.now.nonbasic.items) (omega arith))
