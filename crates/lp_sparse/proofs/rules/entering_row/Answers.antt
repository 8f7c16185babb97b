use Rattle.std.proofs.Common.{◌≡◌, ℕ, ◌<◌, subst, sym, length, List, arith, ◌∙◌}
use Rattle.rational.specs.Rational.{ℚ, zeroℚ, ◌<ℚ◌}
use Rattle.lp_tableau.specs.Places.{FindsFirst, IsLesser}
use Rattle.lp_tableau.specs.Chains.{IsRaising}
use Rattle.lp_sparse.specs.declared.rules.Direction.TheVariants.{Up}
use Rattle.lp_sparse.specs.SparseRows.{terms_of}
use Rattle.lp_sparse.specs.Directions.{Points}
use Rattle.lp_sparse.specs.SparseTableaus.{dictionary_of}
use Rattle.lp_sparse.proofs.Pointing.{FindsFirst-same}
use Rattle.lp_sparse.proofs.RowReads.{terms_in-read, read-is, read-at, rows-length}
use Rattle.lp_sparse.proofs.rules.entering_row.Goals as goal

pub index-requires : goal.index-requires
index-requires g c = omega (arith, c.requires.row, rows-length g.S.Scalar.value c.args.t.now)

pub least_of-requires : goal.least_of-requires
least_of-requires g c = let h : c.args.i < length c.args.t.now.rows.items = omega (arith, c.requires.row, rows-length g.S.Scalar.value c.args.t.now) in
    (read-is g.S.Scalar.value g.S.Scalar.limit c.args.t.now c.requires.rows c.args.i c.deref.result.now h
    (terms_in-read g.S.Scalar.value c.args.t.now.rows.items c.args.i c.index.result.now c.deref.result.now h c.index.ensures c.deref.ensures.value)).sparse.ascends

pub returns : goal.returns
returns g c =
    let value = g.S.Scalar.value in
    let d = dictionary_of value c.args.t.now in
    let h : c.args.i < length c.args.t.now.rows.items = omega (arith, c.requires.row, rows-length value c.args.t.now) in
    let at_column = read-at value g.S.Scalar.limit c.args.t.now c.requires.rows c.args.i c.deref.result.now h
    (terms_in-read value c.args.t.now.rows.items c.args.i c.index.result.now c.deref.result.now h c.index.ensures c.deref.ensures.value) in
    let row = terms_of value c.deref.result.now in
    let names = c.args.t.now.nonbasic.items in
    FindsFirst-same (Points Up row) (IsRaising d c.args.i) names (length names) c.least_of.result
    (λ k l q. subst (λ (z : ℚ). zeroℚ <ℚ z) (sym (at_column k (omega (arith, l)))) q)
    (λ k l q. subst (λ (z : ℚ). zeroℚ <ℚ z) (at_column k (omega (arith, l))) q)
    (subst (λ (xs : List ℕ). FindsFirst (Points Up row) (IsLesser xs) (length xs) c.least_of.result) c.deref-2.ensures.value c.least_of.ensures)
