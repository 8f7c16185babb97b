use Rattle.std.proofs.Common.{sym, ◌∙◌}
use Rattle.exact_lin.proofs.Edits.{term-there, gap-end, gap-there}
use Rattle.exact_lin.proofs.terms.coefficient_at.Goals as goal

pub returns-then-place-terms : goal.returns-then-place-terms
returns-then-place-terms g c = gap-end g.V.Id.number_of g.S.Scalar.value c.args.terms.now c.args.place (g.V.Id.number_of c.args.v) c.requires.place c.requires.terms c.if-place-terms.true

pub returns-then-number : goal.returns-then-number
returns-then-number g c = term-there g.V.Id.number_of g.S.Scalar.value c.args.terms.now c.args.place (g.V.Id.number_of c.args.v) c.requires.place
    c.index-terms-place.result c.if-place-terms.false c.index-terms-place.is (sym c.number.ensures ∙ c.if-number.true ∙ c.number-2.ensures)

pub returns-else-number : goal.returns-else-number
returns-else-number g c = gap-there g.V.Id.number_of g.S.Scalar.value c.args.terms.now c.args.place (g.V.Id.number_of c.args.v) c.requires.place c.requires.terms
    c.index-terms-place.result c.if-place-terms.false c.index-terms-place.is (λ e. c.if-number.false (c.number.ensures ∙ e ∙ sym c.number-2.ensures))
