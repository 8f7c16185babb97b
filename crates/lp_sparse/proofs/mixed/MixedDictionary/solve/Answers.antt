use Rattle.std.proofs.Common.{subst, sym, ap, ◌∙◌, length}
use Rattle.exact_lin.specs.Reckoning.{wide_limit}
use Rattle.lp_tableau.specs.Dictionaries.{Dictionary}
use Rattle.std.specs.Prelude.{IfOk, OnErr}
use Rattle.lp_tableau.specs.Outcomes.{IsOutcome}
use Rattle.lp_sparse.specs.Stops.{IsStopped}
use Rattle.lp_tableau.specs.Meanings.{StandsFor}
use Rattle.lp_sparse.specs.Widths.{shown_by}
use Rattle.lp_sparse.proofs.Answering.{stands-after, size-after, dictionary-after}
use Rattle.lp_sparse.proofs.mixed.MixedDictionary.solve.Goals as goal

pub returns-clause-stands : goal.returns-clause-stands
returns-clause-stands g c = λ p h. stands-after wide_limit (shown_by c.self.inside.width) c.args.budget (shown_by c.walk_on.new.width) c.walk_on.result c.self.invariant c.walk_on.ensures.outcome c.walk_on.ensures.memory p (subst (StandsFor p) (sym c.self.view_is) h)

pub returns-clause-variables : goal.returns-clause-variables
returns-clause-variables g c = (size-after wide_limit (shown_by c.self.inside.width) c.args.budget (shown_by c.walk_on.new.width) c.walk_on.result c.walk_on.ensures.outcome c.walk_on.ensures.memory).0 ∙ ap (λ (d : Dictionary). length d.nonbasic) c.self.view_is

pub returns-clause-rows : goal.returns-clause-rows
returns-clause-rows g c = (size-after wide_limit (shown_by c.self.inside.width) c.args.budget (shown_by c.walk_on.new.width) c.walk_on.result c.walk_on.ensures.outcome c.walk_on.ensures.memory).1 ∙ ap (λ (d : Dictionary). length d.rows) c.self.view_is

pub invariant_of-self : goal.invariant_of-self
invariant_of-self g c = dictionary-after wide_limit (shown_by c.self.inside.width) c.args.budget (shown_by c.walk_on.new.width) c.walk_on.result c.self.invariant c.walk_on.ensures.outcome c.walk_on.ensures.memory

pub returns-clause-outcome : goal.returns-clause-outcome
returns-clause-outcome g c = subst (λ (d : Dictionary). IfOk c.walk_on.result (IsOutcome wide_limit d c.args.budget (shown_by c.walk_on.new.width))) c.self.view_is c.walk_on.ensures.outcome

pub returns-clause-memory : goal.returns-clause-memory
returns-clause-memory g c = subst (λ (d : Dictionary). OnErr c.walk_on.result (IsStopped wide_limit d c.args.budget (shown_by c.walk_on.new.width))) c.self.view_is c.walk_on.ensures.memory
