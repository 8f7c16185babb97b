use Rattle.std.proofs.Common.{subst, sym}
use Rattle.exact_lin.specs.Reckoning.{wide_limit}
use Rattle.lp_tableau.specs.Chains.{Leads}
use Rattle.lp_tableau.specs.Outcomes.{IsOutcome}
use Rattle.lp_sparse.specs.Widths.{shown_by}
use Rattle.lp_sparse.proofs.Mixing.{counted-outcome, counted-stopped}
use Rattle.lp_sparse.proofs.mixed.second_part.Goals as goal

pub returns-in-Ok : goal.returns-in-Ok
returns-in-Ok g c = λ first l. subst (λ o. IsOutcome wide_limit first c.args.budget c.solve.new.self o) (sym c.counted.ensures)
    (counted-outcome wide_limit first c.in-In128.wide c.args.made c.args.budget c.requires.made (subst (λ w. Leads wide_limit first c.args.made (shown_by w)) c.in-In128.is l) c.solve.new.self c.in-Ok.outcome c.in-Ok.ensures.outcome)

pub returns-in-Err : goal.returns-in-Err
returns-in-Err g c = λ first l. counted-stopped wide_limit first c.in-In128.wide c.args.made c.args.budget c.requires.made (subst (λ w. Leads wide_limit first c.args.made (shown_by w)) c.in-In128.is l) c.solve.new.self c.in-Err.ensures.memory
