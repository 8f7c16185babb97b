use Rattle.std.proofs.Common.{◌≡◌, ap, subst, ℕ, ◌∷◌, [], ◌++◌, length, arith}
use Rattle.task_types.specs.Sets.{numbers}
use Rattle.rate_ledger.specs.Reckoned.{AreDefined}
use Rattle.rate_ledger.proofs.Failing.{hands_on}
use Rattle.rate_ledger.proofs.Changing.{due, changed, AreChanged, AreChanged-next, fluent_needed}
use Rattle.rate_ledger.proofs.amounts.changes_at.Goals as goal

pub returns-in_err-push_change : goal.returns-in_err-push_change
returns-in_err-push_change c =
    let task = c.args.task.now.parts in
    let steps = c.args.ledger.now.steps in
    let k = c.args.next.now.step in
    let count : length c.fluents-number-end.result.now ≡ length task.fluents = ap length c.fluents-number-end.ensures in
    hands_on (AreDefined (due task steps k (c.of.result ∷ []))) (AreDefined (due task steps k (numbers (length task.fluents)))) _ c.from_residual.result _ c.from_residual.ensures
    (fluent_needed task steps k (length task.fluents) c.of.result (omega (arith, count, c.of.ensures, c.loop-number-test.true)))
    c.in_err-push_change.ensures

pub loop-number-preserved : goal.loop-number-preserved
loop-number-preserved c =
    let task = c.args.task.now.parts in
    let steps = c.args.ledger.now.steps in
    let k = c.args.next.now.step in
    AreChanged-next task steps k c.loop-number.number c.loop-number.out c.push_change.new.out c.loop-number.invariant
    (subst (λ (f : ℕ). AreDefined (due task steps k (f ∷ [])) × (c.push_change.new.out ≡ c.loop-number.out ++ changed task steps k (f ∷ []))) c.of.ensures c.in_ok-push_change.ensures)

pub returns : goal.returns
returns c =
    let task = c.args.task.now.parts in
    let steps = c.args.ledger.now.steps in
    let k = c.args.next.now.step in
    let count : length c.fluents-number-end.result.now ≡ length task.fluents = ap length c.fluents-number-end.ensures in
    let all : c.loop-number.number ≡ length task.fluents = omega (arith, count, c.loop-number-test.false, c.loop-number.auto.number-end) in
    let whole = subst (λ n. AreChanged task steps k n c.loop-number.out) all c.loop-number.invariant in
    (whole.can, whole.are)
