use Rattle.std.proofs.Common.{◌++◌}
use Rattle.basics.proofs.Lists.{each_left, each_right}
use Rattle.rate_ledger.specs.Sums.{CanMake}
use Rattle.rate_ledger.proofs.Failing.{hands_on}
use Rattle.lp_rows.specs.StepRows.{duration_compared, own_compared, watch_compared, step_compared}
use Rattle.lp_rows.specs.Comparing.{CanCompare}
use Rattle.lp_rows.proofs.Pushing.{ArePushed-none, ArePushed-more}
use Rattle.lp_rows.proofs.steps.push_compared_rows.Goals as goal

pub returns-in_err-push_duration_rows : goal.returns-in_err-push_duration_rows
returns-in_err-push_duration_rows c =
    let task = c.args.task.now.parts in
    let steps = c.args.ledger.now.steps in
    let j = c.args.step in
    hands_on (CanCompare (duration_compared task steps j)) (CanCompare (step_compared task steps j)) _ c.from_residual.result _ c.from_residual.ensures
    (λ m. each_left (λ c. CanMake c.sum) (duration_compared task steps j) (own_compared task steps j) (each_left (λ c. CanMake c.sum) (duration_compared task steps j ++ own_compared task steps j) (watch_compared task steps j) m))
    c.in_err-push_duration_rows.ensures

pub returns-in_err-push_own_rows : goal.returns-in_err-push_own_rows
returns-in_err-push_own_rows c =
    let task = c.args.task.now.parts in
    let steps = c.args.ledger.now.steps in
    let j = c.args.step in
    hands_on (CanCompare (own_compared task steps j)) (CanCompare (step_compared task steps j)) _ c.from_residual-in_err-push_own_rows.result _ c.from_residual-in_err-push_own_rows.ensures
    (λ m. each_right (λ c. CanMake c.sum) (duration_compared task steps j) (own_compared task steps j) (each_left (λ c. CanMake c.sum) (duration_compared task steps j ++ own_compared task steps j) (watch_compared task steps j) m))
    c.in_err-push_own_rows.ensures

pub returns-in_err-push_watch_rows : goal.returns-in_err-push_watch_rows
returns-in_err-push_watch_rows c =
    let task = c.args.task.now.parts in
    let steps = c.args.ledger.now.steps in
    let j = c.args.step in
    hands_on (CanCompare (watch_compared task steps j)) (CanCompare (step_compared task steps j)) _ c.from_residual-in_err-push_watch_rows.result _ c.from_residual-in_err-push_watch_rows.ensures
    (each_right (λ c. CanMake c.sum) (duration_compared task steps j ++ own_compared task steps j) (watch_compared task steps j))
    c.in_err-push_watch_rows.ensures

pub returns : goal.returns
returns c =
    let task = c.args.task.now.parts in
    let steps = c.args.ledger.now.steps in
    let j = c.args.step in
    let old = c.args.out.now in
    let first = ArePushed-more old _ (duration_compared task steps j) old c.push_duration_rows.new.out (ArePushed-none old) c.in_ok-push_duration_rows.ensures in
    let second = ArePushed-more old _ (own_compared task steps j) c.push_duration_rows.new.out c.push_own_rows.new.out first c.in_ok-push_own_rows.ensures in
    let third = ArePushed-more old _ (watch_compared task steps j) c.push_own_rows.new.out c.push_watch_rows.new.out second c.in_ok-push_watch_rows.ensures in
    (third.can, third.are)
