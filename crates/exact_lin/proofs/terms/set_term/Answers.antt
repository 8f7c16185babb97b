use Rattle.std.proofs.Common.{ap, sym, ◌∙◌}
use Rattle.exact_lin.specs.Forms.{shown}
use Rattle.exact_lin.proofs.Edits.{shown-remove, shown-set}
use Rattle.exact_lin.proofs.terms.set_term.Goals as goal

pub returns-then-is_zero : goal.returns-then-is_zero
returns-then-is_zero g c = ap (shown g.V.Id.number_of g.S.Scalar.value) c.remove.ensures.items ∙ shown-remove g.V.Id.number_of g.S.Scalar.value c.args.terms.now.items c.args.place (g.V.Id.number_of c.args.v) (g.S.Scalar.value c.args.c) (sym c.if-is_zero.ensures.test)

pub returns-else-is_zero : goal.returns-else-is_zero
returns-else-is_zero g c = shown-set g.V.Id.number_of g.S.Scalar.value c.args.terms.now.items c.args.place (c.args.v, c.args.c) c.requires (sym c.if-is_zero.ensures.test)
