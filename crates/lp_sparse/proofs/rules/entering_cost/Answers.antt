use Rattle.std.proofs.Common.{◌≡◌, ℕ, ◌<◌, subst, sym, length, List, arith, ◌∙◌}
use Rattle.rational.specs.Rational.{ℚ, zeroℚ, ◌<ℚ◌}
use Rattle.lp_tableau.specs.Places.{FindsFirst, IsLesser}
use Rattle.lp_tableau.specs.Chains.{IsCheaper}
use Rattle.lp_sparse.specs.declared.rules.Direction.TheVariants.{Down}
use Rattle.lp_sparse.specs.SparseRows.{terms_of}
use Rattle.lp_sparse.specs.Directions.{Points}
use Rattle.lp_sparse.specs.SparseTableaus.{dictionary_of}
use Rattle.lp_sparse.proofs.Pointing.{FindsFirst-same}
use Rattle.lp_sparse.proofs.RowReads.{cost-at}
use Rattle.lp_sparse.proofs.rules.entering_cost.Goals as goal

pub returns : goal.returns
returns g c =
    let value = g.S.Scalar.value in
    let cost = terms_of value c.deref.result.now in
    let names = c.args.t.now.nonbasic.items in
    let at_column = λ (k : ℕ) (l : k < length names). cost-at value g.S.Scalar.limit c.args.t.now c.requires k c.deref.result.now (omega (arith, l)) c.deref.ensures.value in
    FindsFirst-same (Points Down cost) (IsCheaper (dictionary_of value c.args.t.now)) names (length names) c.least_of.result
    (λ k l q. subst (λ (z : ℚ). z <ℚ zeroℚ) (sym (at_column k l)) q)
    (λ k l q. subst (λ (z : ℚ). z <ℚ zeroℚ) (at_column k l) q)
    (subst (λ (xs : List ℕ). FindsFirst (Points Down cost) (IsLesser xs) (length xs) c.least_of.result) c.deref-2.ensures.value c.least_of.ensures)
