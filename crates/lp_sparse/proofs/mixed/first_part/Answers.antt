use Rattle.std.proofs.Common.{subst, sym, arith}
use Rattle.exact_lin.specs.Reckoning.{narrow_limit, wide_limit}
use Rattle.lp_tableau.specs.declared.outcome.Outcome.TheVariants.{Optimal, Infeasible, Spent}
use Rattle.lp_tableau.specs.Dictionaries.{Dictionary}
use Rattle.lp_tableau.specs.Chains.{Leads}
use Rattle.lp_tableau.specs.Meanings.{IsDictionary}
use Rattle.lp_tableau.specs.Outcomes.{IsOutcome}
use Rattle.lp_sparse.specs.Stops.{IsStopped}
use Rattle.lp_sparse.specs.Widths.{shown_by}
use Rattle.lp_sparse.proofs.Mixing.{widened-leads, widened-stopped, undefined-stopped, widened-optimal, widened-infeasible, widened-spent}
use Rattle.lp_sparse.proofs.mixed.first_part.Goals as goal

pub returns-in-Ok-clause-part : goal.returns-in-Ok-clause-part
returns-in-Ok-clause-part g c =
    let o = subst (λ x. IsOutcome narrow_limit c.in-In64.narrow c.args.budget c.solve.new.self x) c.in-Ok-Wide.field-0-is c.in-Ok-Wide.ensures.outcome in (
      omega (arith, o.0),
      subst (λ (e : Dictionary). Leads wide_limit (shown_by c.args.width.now) c.in-Ok-Wide.made e) (sym c.in-Ok.ensures)
          (subst (λ w. Leads wide_limit (shown_by w) c.in-Ok-Wide.made c.solve.new.self) (sym c.in-In64.is) (widened-leads c.in-In64.narrow c.in-Ok-Wide.made c.solve.new.self o.1)),
    )

pub returns-in-Err-widen-clause-memory : goal.returns-in-Err-widen-clause-memory
returns-in-Err-widen-clause-memory g c =
    let o = subst (λ x. IsOutcome narrow_limit c.in-In64.narrow c.args.budget c.solve.new.self x) c.in-Ok-Wide.field-0-is c.in-Ok-Wide.ensures.outcome in
    subst (λ w. IsStopped wide_limit (shown_by w) c.args.budget c.solve.new.self) (sym c.in-In64.is)
    (undefined-stopped c.in-In64.narrow c.args.budget c.in-Ok-Wide.made c.solve.new.self (subst (λ w. IsDictionary (shown_by w)) c.in-In64.is c.requires) o)

pub returns-in-Ok-Optimal-clause-part : goal.returns-in-Ok-Optimal-clause-part
returns-in-Ok-Optimal-clause-part g c = subst (λ w. IsOutcome wide_limit (shown_by w) c.args.budget c.solve.new.self Optimal) (sym c.in-In64.is)
    (widened-optimal c.in-In64.narrow c.args.budget c.solve.new.self (subst (λ x. IsOutcome narrow_limit c.in-In64.narrow c.args.budget c.solve.new.self x) c.in-Ok-Optimal.field-0-is c.in-Ok-Optimal.ensures.outcome))

pub returns-in-Ok-Infeasible-clause-part : goal.returns-in-Ok-Infeasible-clause-part
returns-in-Ok-Infeasible-clause-part g c = subst (λ w. IsOutcome wide_limit (shown_by w) c.args.budget c.solve.new.self Infeasible) (sym c.in-In64.is)
    (widened-infeasible c.in-In64.narrow c.args.budget c.solve.new.self (subst (λ x. IsOutcome narrow_limit c.in-In64.narrow c.args.budget c.solve.new.self x) c.in-Ok-Infeasible.field-0-is c.in-Ok-Infeasible.ensures.outcome))

pub returns-in-Ok-Spent-clause-part : goal.returns-in-Ok-Spent-clause-part
returns-in-Ok-Spent-clause-part g c = subst (λ w. IsOutcome wide_limit (shown_by w) c.args.budget c.solve.new.self (Spent c.in-Ok-Spent.spent)) (sym c.in-In64.is)
    (widened-spent c.in-In64.narrow c.args.budget c.solve.new.self c.in-Ok-Spent.spent (subst (λ x. IsOutcome narrow_limit c.in-In64.narrow c.args.budget c.solve.new.self x) c.in-Ok-Spent.field-0-is c.in-Ok-Spent.ensures.outcome))

pub returns-in-Err-clause-memory : goal.returns-in-Err-clause-memory
returns-in-Err-clause-memory g c = subst (λ w. IsStopped wide_limit (shown_by w) c.args.budget c.solve.new.self) (sym c.in-In64.is)
    (widened-stopped c.in-In64.narrow c.args.budget c.solve.new.self c.in-Err.ensures.memory)
