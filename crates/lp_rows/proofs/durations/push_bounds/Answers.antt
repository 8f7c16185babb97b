use Rattle.std.proofs.Common.{sym, subst, ℕ, ◌+◌, ◌∷◌, [], map, take}
use Rattle.std.specs.List.{enumerate_from}
use Rattle.task_types.specs.declared.actions.Bound.{Bound}
use Rattle.rate_ledger.proofs.Failing.{hands_on}
use Rattle.lp_rows.specs.StepRows.{Compared, bound_compared}
use Rattle.lp_rows.specs.Comparing.{CanCompare}
use Rattle.lp_rows.proofs.Pushing.{ArePushed, ArePushed-more, numbered, numbered-more, number_needed, one_each}
use Rattle.lp_rows.proofs.durations.push_bounds.Goals as goal

pub returns-in_err-push_bound : goal.returns-in_err-push_bound
returns-in_err-push_bound c =
    let compared : ℕ × Bound → Compared = bound_compared c.args.task.now.parts c.args.ledger.now.steps c.args.start c.args.end c.args.end in
    let bounds = c.args.bounds.now in
    hands_on (CanCompare (compared (1 + c.loop-place.place, c.index-bounds-place.result) ∷ [])) (CanCompare (map compared (enumerate_from 1 bounds))) _ c.from_residual.result _ c.from_residual.ensures
    (λ m. number_needed (λ e. compared e ∷ []) 1 bounds c.loop-place.place c.index-bounds-place.result c.loop-place-test.true c.index-bounds-place.is (subst CanCompare (sym (one_each compared (enumerate_from 1 bounds))) m))
    c.in_err-push_bound.ensures

pub loop-place-preserved : goal.loop-place-preserved
loop-place-preserved c =
    let compared : ℕ × Bound → Compared = bound_compared c.args.task.now.parts c.args.ledger.now.steps c.args.start c.args.end c.args.end in
    let bounds = c.args.bounds.now in
    let i = c.loop-place.place in
    let x = c.index-bounds-place.result in
    subst (λ cs. ArePushed c.args.out.now cs c.push_bound.new.out) (sym (numbered-more (λ e. compared e ∷ []) 1 bounds i x c.loop-place-test.true c.index-bounds-place.is))
    (ArePushed-more c.args.out.now (numbered (λ e. compared e ∷ []) 1 (take i bounds)) (compared (1 + i, x) ∷ []) c.loop-place.out c.push_bound.new.out c.loop-place.invariant c.in_ok-push_bound.ensures)
