use Rattle.std.proofs.Common.{ap, sym, ◌∙◌}
use Rattle.exact_lin.specs.Forms.{shown}
use Rattle.exact_lin.proofs.Edits.{shown-insert}
use Rattle.exact_lin.proofs.terms.insert_term.Goals as goal

pub returns-in-Ok-clause-terms : goal.returns-in-Ok-clause-terms
returns-in-Ok-clause-terms g c = ap (shown g.V.Id.number_of g.S.Scalar.value) c.in-Ok.ensures.items ∙ shown-insert g.V.Id.number_of g.S.Scalar.value c.args.terms.now.items c.args.place (c.args.v, c.args.c) (sym c.if-is_zero.ensures.test)
