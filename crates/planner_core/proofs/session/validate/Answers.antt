use Rattle.std.proofs.Common.{◌≡◌, rules, ◌∙◌}
use Rattle.planner_core.specs.Answers.{rules_of, Validates}
use Rattle.planner_core.specs.Stops.{outcome, stop_said, why_of}
use Rattle.planner_core.proofs.Led.{came_stopped, came_on, led_on, led_last}
use Rattle.planner_core.proofs.session.validate.Goals as goal

pub returns-in_err-domain_text : goal.returns-in_err-domain_text
returns-in_err-domain_text g c =
    let stop = c.in_err-domain_text.field-0.0 in
    let facts = c.in_err-domain_text.ensures in
    let same : outcome c.from_residual.result ≡ stop_said stop = search rules in
    came_stopped _ _ _ (why_of stop) _ _ _ (same ∙ facts.stop) facts.answer facts.after

pub returns-in_err-problem_text : goal.returns-in_err-problem_text
returns-in_err-problem_text g c =
    let stop = c.in_err-problem_text.field-0.0 in
    let first = c.in_ok-domain_text.ensures in
    let facts = c.in_err-problem_text.ensures in
    let same : outcome c.from_residual-in_err-problem_text.result ≡ stop_said stop = search rules in
    came_on _ _ _ _ _ _ _ _ first.answer first.after
    (came_stopped _ _ _ (why_of stop) _ _ _ (same ∙ facts.stop) facts.answer facts.after)

pub returns-in_err-plan_text : goal.returns-in_err-plan_text
returns-in_err-plan_text g c =
    let stop = c.in_err-plan_text.field-0.0 in
    let first = c.in_ok-domain_text.ensures in
    let second = c.in_ok-problem_text.ensures in
    let facts = c.in_err-plan_text.ensures in
    let same : outcome c.from_residual-in_err-plan_text.result ≡ stop_said stop = search rules in
    came_on _ _ _ _ _ _ _ _ first.answer first.after
    (came_on _ _ _ _ _ _ _ _ second.answer second.after
    (came_stopped _ _ _ (why_of stop) _ _ _ (same ∙ facts.stop) facts.answer facts.after))

pub returns : goal.returns
returns g c =
    let first = c.in_ok-domain_text.ensures in
    let second = c.in_ok-problem_text.ensures in
    let third = c.in_ok-plan_text.ensures in
    let told : Validates (rules_of c.args.limits) c.in_ok-domain_text.domain_text.items c.in_ok-problem_text.problem_text.items c.in_ok-plan_text.plan_text.items c.in_ok-validation_reply.field-0 = search rules in
    led_on _ _ _ _ _ _ _ _ first.answer first.after
    (led_on _ _ _ _ _ _ _ _ second.answer second.after
    (led_on _ _ _ _ _ _ _ _ third.answer third.after
    (led_last (Validates (rules_of c.args.limits) c.in_ok-domain_text.domain_text.items c.in_ok-problem_text.problem_text.items c.in_ok-plan_text.plan_text.items) _ _ told)))
