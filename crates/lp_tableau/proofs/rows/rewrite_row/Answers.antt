use Rattle.std.proofs.Common.{◌≡◌, ◌∙◌, sym, ap, subst, Bool, List, length, map}
use Rattle.std.specs.Prelude.{if◌then◌else◌}
use Rattle.std.proofs.lemmas.List.{length-map}
use Rattle.rational.specs.Rational.{zeroℚ}
use Rattle.rational.specs.Lists.{at}
use Rattle.lp_tableau.specs.Pivots.{replaced}
use Rattle.lp_tableau.proofs.FittingRows.{without-replaced}
use Rattle.lp_tableau.proofs.rows.rewrite_row.Goals as goal

pub returns-else-holds-clause-row : goal.returns-else-holds-clause-row
returns-else-holds-clause-row g c =
    let row = map g.S.Scalar.value c.args.row.now.items in
    let solution = map g.S.Scalar.value c.args.solution.now in
    let without : at row c.args.j ≡ zeroℚ = ap (λ (xs : List g.row.S.Denot). at (map g.S.Scalar.value xs) c.args.j) (sym c.deref.ensures.value) ∙ c.if-holds.ensures {u = tt} in
    let long : length solution ≡ length row = length-map c.args.solution.now g.S.Scalar.value ∙ sym c.requires.length ∙ sym (length-map c.args.row.now.items g.S.Scalar.value) in
    subst (λ (b : Bool). row ≡ (if b then solution else replaced solution c.args.j row)) (sym c.if-leaves.false) (sym (without-replaced solution c.args.j row long without))
