use Rattle.std.proofs.Common.{subst, sym, ap, ◌∙◌, length}
use Rattle.lp_tableau.specs.Dictionaries.{Dictionary}
use Rattle.lp_tableau.specs.Meanings.{StandsFor}
use Rattle.lp_tableau.specs.Tableaus.{dictionary_of}
use Rattle.lp_tableau.proofs.Choices.{StandsFor-outcome, size-outcome}
use Rattle.lp_tableau.proofs.dictionary.Dictionary.solve.Goals as goal

pub returns-clause-stands : goal.returns-clause-stands
returns-clause-stands g c = λ p h. StandsFor-outcome g.S.Scalar.limit p (dictionary_of g.S.Scalar.value c.self.inside.tableau) c.args.budget (dictionary_of g.S.Scalar.value c.walk.new.t) c.walk.result c.self.invariant.dictionary c.walk.ensures.outcome (subst (StandsFor p) (sym c.self.view_is) h)

pub returns-clause-variables : goal.returns-clause-variables
returns-clause-variables g c = (size-outcome g.S.Scalar.limit (dictionary_of g.S.Scalar.value c.self.inside.tableau) c.args.budget (dictionary_of g.S.Scalar.value c.walk.new.t) c.walk.result c.walk.ensures.outcome).0 ∙ ap (λ (d : Dictionary). length d.nonbasic) c.self.view_is

pub returns-clause-rows : goal.returns-clause-rows
returns-clause-rows g c = (size-outcome g.S.Scalar.limit (dictionary_of g.S.Scalar.value c.self.inside.tableau) c.args.budget (dictionary_of g.S.Scalar.value c.walk.new.t) c.walk.result c.walk.ensures.outcome).1 ∙ ap (λ (d : Dictionary). length d.rows) c.self.view_is
