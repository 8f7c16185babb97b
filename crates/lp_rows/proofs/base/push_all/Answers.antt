use Rattle.std.proofs.Common.{◌≡◌, ap, subst, ◌∙◌, ℕ, suc, ◌+◌, ◌++◌, List, length, arith}
use Rattle.rate_ledger.specs.Reckoned.{AreDefined}
use Rattle.lp_rows.specs.declared.rows.OriginRow.{OriginRow}
use Rattle.lp_rows.specs.declared.origins.Place.TheVariants as place
use Rattle.lp_rows.specs.StepRows.{step_rows, step_reckoned}
use Rattle.lp_rows.specs.Faulting.{fault_at, step_places}
use Rattle.lp_rows.proofs.Reckoning.{defined-more, first_at, told_at, rows-more}
use Rattle.lp_rows.proofs.base.push_all.Goals as goal

pub returns-in-Err : goal.returns-in-Err
returns-in-Err c =
    let task = c.args.task.now.parts in
    let steps = c.args.steps.now in
    let n = c.loop-number.number in
    let h = c.loop-number.invariant in
    let next : n + 1 ≡ suc n = omega arith in
    told_at c.fault_at.result c.in-Err.fault (AreDefined (step_reckoned task c.loop-number.ledger.steps (length c.loop-number.ledger.changes))) (place.Step (suc n)) (step_places task steps (length steps)) _
    (c.fault_at.ensures ∙ ap (λ k. fault_at c.in-Err.fault (place.Step k)) next) c.in-Err.ensures.answer
    (λ d. first_at task steps (length steps) n c.loop-number-test.true h.defined (subst (λ k. ¬ (AreDefined (step_reckoned task steps k))) h.taken (subst (λ ss. ¬ (AreDefined (step_reckoned task ss (length c.loop-number.ledger.changes)))) h.same d)))

pub loop-number-preserved : goal.loop-number-preserved
loop-number-preserved c =
    let task = c.args.task.now.parts in
    let steps = c.args.steps.now in
    let h = c.loop-number.invariant in
    let e = c.in-Ok.ensures in
    let g : List ℕ → ℕ → List OriginRow = λ ss. step_rows task c.args.rules.now (record { steps = ss; extra = c.args.extra.now }) c.args.last in
    record {
      keeps = e.keeps;
      same = e.list ∙ h.same;
      taken = omega (arith, e.taken, h.taken);
      defined = defined-more task steps c.loop-number.number h.defined (subst (λ k. AreDefined (step_reckoned task steps k)) h.taken (subst (λ ss. AreDefined (step_reckoned task ss (length c.loop-number.ledger.changes))) h.same e.answer.0));
      are = rows-more (g steps) c.args.out.now c.loop-number.out c.push_next.new.out c.loop-number.number (length c.loop-number.ledger.changes) h.taken h.are (e.answer.1 ∙ ap (λ ss. c.loop-number.out ++ g ss (length c.loop-number.ledger.changes)) h.same);
    }
