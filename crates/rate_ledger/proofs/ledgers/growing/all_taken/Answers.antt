use Rattle.std.proofs.Common.{◌≡◌, sym, ap, ◌∙◌, length, arith}
use Rattle.rate_ledger.specs.Ledgers.{AllDefined}
use Rattle.rate_ledger.specs.Reckoned.{AreDefined, step_made}
use Rattle.rate_ledger.proofs.Failing.{hands_on}
use Rattle.rate_ledger.proofs.WholeLists.{all_defined, step_needed}
use Rattle.rate_ledger.proofs.ledgers.growing.all_taken.Goals as goal

pub returns-in_err-push : goal.returns-in_err-push
returns-in_err-push c =
    let task = c.args.task.now.parts in
    let l = c.loop-count.ledger in
    hands_on (AreDefined (step_made task l.steps (length l.changes))) (AllDefined task c.args.steps.now) _ c.from_residual-in_err-push.result _ c.from_residual-in_err-push.ensures
    (step_needed task l c.args.steps.now c.loop-count.invariant.same (omega (arith, c.loop-count.invariant.taken, c.loop-count-test.true))) c.in_err-push.ensures.answer

pub returns : goal.returns
returns c =
    let h = c.loop-count.invariant in
    let all : length c.loop-count.ledger.changes ≡ length c.args.steps.now = omega (arith, h.taken, c.loop-count-test.false, c.loop-count.auto.count-end) in
    (all_defined c.args.task.now.parts c.loop-count.ledger c.args.steps.now h.keeps h.same all, (h.keeps, h.same, all ∙ sym (ap length h.same)))
