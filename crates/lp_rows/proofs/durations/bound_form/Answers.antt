use Rattle.std.proofs.Common.{sym, subst, ℕ, ◌&&◌}
use Rattle.rate_ledger.specs.Sums.{CanMake, put}
use Rattle.rate_ledger.specs.Entries.{value_before}
use Rattle.rate_ledger.proofs.Failing.{hands_on}
use Rattle.lp_rows.specs.StepRows.{has_fluents, bound_sum}
use Rattle.lp_rows.proofs.RowParts.{bound_made}
use Rattle.lp_rows.proofs.durations.bound_form.Goals as goal

pub returns-in_err-form : goal.returns-in_err-form
returns-in_err-form c =
    let task = c.args.task.now.parts in
    let steps = c.args.ledger.now.steps in
    hands_on (CanMake (put (value_before task steps c.read_at.result) c.args.bound.now.form)) (CanMake (bound_sum task steps c.args.start c.args.end c.args.end c.args.bound.now)) _ c.from_residual.result _ c.from_residual.ensures
    (λ m. subst (λ (k : ℕ). CanMake (put (value_before task steps k) c.args.bound.now.form)) (sym c.read_at.ensures) m.0.0) c.in_err-form.ensures

pub returns : goal.returns
returns c =
    let b = c.args.bound.now in
    bound_made c.less_duration.result (value_before c.args.task.now.parts c.args.ledger.now.steps) (b.at_end && has_fluents b.form) c.read_at.result c.args.start c.args.end b.form c.in_ok-form.form c.of_int.result c.of_int.ensures c.read_at.ensures c.in_ok-form.ensures c.less_duration.ensures
