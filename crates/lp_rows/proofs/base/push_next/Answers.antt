use Rattle.std.proofs.Common.{◌≡◌, subst, ◌∙◌, ℕ, List, ◌++◌, length}
use Rattle.rate_ledger.specs.Answers.{Gives}
use Rattle.rate_ledger.specs.Reckoned.{AreDefined, step_made}
use Rattle.rate_ledger.proofs.Failing.{hands_on}
use Rattle.lp_rows.specs.StepRows.{step_compared, step_rows, step_reckoned}
use Rattle.lp_rows.specs.Comparing.{CanCompare}
use Rattle.lp_rows.proofs.Reckoning.{step_told, made_needed}
use Rattle.lp_rows.proofs.base.push_next.Goals as goal

pub returns-in_err-push-clause-answer : goal.returns-in_err-push-clause-answer
returns-in_err-push-clause-answer c =
    let task = c.args.task.now.parts in
    let l = c.args.ledger.now in
    hands_on (AreDefined (step_made task l.steps (length l.changes))) (AreDefined (step_reckoned task l.steps (length l.changes))) _ c.from_residual-in_err-push.result _ c.from_residual-in_err-push.ensures
    (made_needed task l.steps (length l.changes)) c.in_err-push.ensures.answer

pub returns-clause-answer : goal.returns-clause-answer
returns-clause-answer c =
    let task = c.args.task.now.parts in
    let l = c.args.ledger.now in
    let k = length l.changes in
    let r = c.push_step_rows.result in
    let new = c.push_step_rows.new.out in
    let old = c.args.out.now in
    let extra = c.args.extra.now in
    let rules = c.args.rules.now in
    let last = c.args.last in
    step_told r task l.steps k (λ _. new ≡ old ++ step_rows task rules (record { steps = l.steps; extra = extra }) last k) c.in_ok-push.ensures.answer.0
    (subst (λ (j : ℕ). Gives r (CanCompare (step_compared task l.steps j)) (λ _. new ≡ old ++ step_rows task rules (record { steps = l.steps; extra = extra }) last j)) (c.of-step.ensures ∙ c.len.ensures)
    (subst (λ (steps : List ℕ). Gives r (CanCompare (step_compared task steps c.of-step.result)) (λ _. new ≡ old ++ step_rows task rules (record { steps = steps; extra = extra }) last c.of-step.result)) c.in_ok-push.ensures.list c.push_step_rows.ensures))
