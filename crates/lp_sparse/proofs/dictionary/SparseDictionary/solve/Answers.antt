use Rattle.std.proofs.Common.{subst, sym, ap, ◌∙◌, length}
use Rattle.lp_tableau.specs.Dictionaries.{Dictionary}
use Rattle.std.specs.Prelude.{IfOk, OnErr}
use Rattle.lp_tableau.specs.Outcomes.{IsOutcome}
use Rattle.lp_sparse.specs.Stops.{IsStopped}
use Rattle.lp_tableau.specs.Meanings.{StandsFor}
use Rattle.lp_sparse.specs.SparseTableaus.{dictionary_of}
use Rattle.lp_sparse.proofs.Answering.{stands-after, size-after}
use Rattle.lp_sparse.proofs.dictionary.SparseDictionary.solve.Goals as goal

pub returns-clause-stands : goal.returns-clause-stands
returns-clause-stands g c = λ p h. stands-after g.S.Scalar.limit (dictionary_of g.S.Scalar.value c.self.inside.tableau) c.args.budget (dictionary_of g.S.Scalar.value c.walk.new.t) c.walk.result c.self.invariant.dictionary c.walk.ensures.outcome c.walk.ensures.memory p (subst (StandsFor p) (sym c.self.view_is) h)

pub returns-clause-variables : goal.returns-clause-variables
returns-clause-variables g c = (size-after g.S.Scalar.limit (dictionary_of g.S.Scalar.value c.self.inside.tableau) c.args.budget (dictionary_of g.S.Scalar.value c.walk.new.t) c.walk.result c.walk.ensures.outcome c.walk.ensures.memory).0 ∙ ap (λ (d : Dictionary). length d.nonbasic) c.self.view_is

pub returns-clause-rows : goal.returns-clause-rows
returns-clause-rows g c = (size-after g.S.Scalar.limit (dictionary_of g.S.Scalar.value c.self.inside.tableau) c.args.budget (dictionary_of g.S.Scalar.value c.walk.new.t) c.walk.result c.walk.ensures.outcome c.walk.ensures.memory).1 ∙ ap (λ (d : Dictionary). length d.rows) c.self.view_is

pub returns-clause-outcome : goal.returns-clause-outcome
returns-clause-outcome g c = subst (λ (d : Dictionary). IfOk c.walk.result (IsOutcome g.S.Scalar.limit d c.args.budget (dictionary_of g.S.Scalar.value c.walk.new.t))) c.self.view_is c.walk.ensures.outcome

pub returns-clause-memory : goal.returns-clause-memory
returns-clause-memory g c = subst (λ (d : Dictionary). OnErr c.walk.result (IsStopped g.S.Scalar.limit d c.args.budget (dictionary_of g.S.Scalar.value c.walk.new.t))) c.self.view_is c.walk.ensures.memory
