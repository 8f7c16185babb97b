use Rattle.std.proofs.Common.{◌≡◌, sym, ap, subst, ◌∙◌, List, ℕ, ◌++◌, map, length, take, arith}
use Rattle.std.specs.Prelude.{option_to_list}
use Rattle.basics.proofs.Lists.{each_append, each_left, each_right}
use Rattle.task_types.specs.declared.actions.Snap.{Snap}
use Rattle.task_types.specs.declared.conditions.Amount.{Amount}
use Rattle.task_types.specs.Order.{run_on, running}
use Rattle.rate_ledger.specs.Sums.{CanMake}
use Rattle.rate_ledger.specs.Entries.{snap_at, amount_sum, value_before}
use Rattle.rate_ledger.specs.Picking.{amount_of, CanMakeAmounts}
use Rattle.rate_ledger.proofs.Failing.{hands_on}
use Rattle.rate_ledger.proofs.Keeping.{running_few, running_next}
use Rattle.rate_ledger.proofs.nexts.next_step.Goals as goal

pub span-span-requires-clause-few : goal.span-span-requires-clause-few
span-span-requires-clause-few c =
    let l = c.args.ledger.now in
    omega (arith, ap length c.as_slice.ensures, ap length (c.as_slice-2.ensures ∙ c.requires.keeps.pending), running_few c.args.task.now.parts l.steps, l.few)

pub returns-in_err-assigns : goal.returns-in_err-assigns
returns-in_err-assigns c =
    let task = c.args.task.now.parts in
    let l = c.args.ledger.now in
    let k = length l.changes in
    let s = snap_at task l.steps k in
    let step_is : c.of-step.result ≡ k = c.of-step.ensures ∙ c.len-count.ensures in
    let listed : c.as_slice-3.result.now ≡ s.effect.assigns = c.as_slice-3.ensures ∙ ap (λ s. s.effect.assigns) (c.snap-snap.ensures ∙ ap (snap_at task l.steps) step_is) in
    hands_on (CanMakeAmounts task l.steps c.of-step.result c.as_slice-3.result.now) (CanMakeAmounts task l.steps k (s.effect.assigns ++ s.effect.increases)) _ c.from_residual.result _ c.from_residual.ensures
    (λ m. subst (λ (j : ℕ). CanMakeAmounts task l.steps j c.as_slice-3.result.now) (sym step_is) (subst (λ (es : List (ℕ × Amount)). CanMakeAmounts task l.steps k es) (sym listed)
    (each_left (λ e. CanMake (amount_sum task l.steps k (value_before task l.steps k) e.1)) s.effect.assigns s.effect.increases m)))
    c.in_err-assigns.ensures

pub returns-in_err-increases : goal.returns-in_err-increases
returns-in_err-increases c =
    let task = c.args.task.now.parts in
    let l = c.args.ledger.now in
    let k = length l.changes in
    let s = snap_at task l.steps k in
    let step_is : c.of-step.result ≡ k = c.of-step.ensures ∙ c.len-count.ensures in
    let listed : c.as_slice-4.result.now ≡ s.effect.increases = c.as_slice-4.ensures ∙ ap (λ s. s.effect.increases) (c.snap-snap.ensures ∙ ap (snap_at task l.steps) step_is) in
    hands_on (CanMakeAmounts task l.steps c.of-step.result c.as_slice-4.result.now) (CanMakeAmounts task l.steps k (s.effect.assigns ++ s.effect.increases)) _ c.from_residual-in_err-increases.result _ c.from_residual-in_err-increases.ensures
    (λ m. subst (λ (j : ℕ). CanMakeAmounts task l.steps j c.as_slice-4.result.now) (sym step_is) (subst (λ (es : List (ℕ × Amount)). CanMakeAmounts task l.steps k es) (sym listed)
    (each_right (λ e. CanMake (amount_sum task l.steps k (value_before task l.steps k) e.1)) s.effect.assigns s.effect.increases m)))
    c.in_err-increases.ensures

pub returns : goal.returns
returns c =
    let task = c.args.task.now.parts in
    let l = c.args.ledger.now in
    let k = c.of-step.result in
    let s = snap_at task l.steps k in
    let step_is : k ≡ length l.changes = c.of-step.ensures ∙ c.len-count.ensures in
    let assigns : c.as_slice-3.result.now ≡ s.effect.assigns = c.as_slice-3.ensures ∙ ap (λ s. s.effect.assigns) c.snap-snap.ensures in
    let increases : c.as_slice-4.result.now ≡ s.effect.increases = c.as_slice-4.ensures ∙ ap (λ s. s.effect.increases) c.snap-snap.ensures in
    let can_assign = subst (λ (es : List (ℕ × Amount)). CanMakeAmounts task l.steps k es) assigns c.in_ok-assigns.ensures.0 in
    let can_increase = subst (λ (es : List (ℕ × Amount)). CanMakeAmounts task l.steps k es) increases c.in_ok-increases.ensures.0 in (
      subst (λ (j : ℕ). CanMakeAmounts task l.steps j ((snap_at task l.steps j).effect.assigns ++ (snap_at task l.steps j).effect.increases)) step_is
          (each_append (λ e. CanMake (amount_sum task l.steps k (value_before task l.steps k) e.1)) s.effect.assigns s.effect.increases can_assign can_increase),
      record {
        step = step_is;
        running = c.in_ok-running.ensures ∙ ap (λ (s : Snap). run_on s.kind (option_to_list s.action) c.as_slice-5.result.now) c.snap-snap.ensures
            ∙ ap (run_on s.kind (option_to_list s.action)) (c.as_slice-5.ensures ∙ c.requires.keeps.running ∙ ap (λ j. running task (take j l.steps)) (sym step_is))
            ∙ sym (running_next task l.steps k (omega (arith, step_is, c.requires.next)));
        assigns = c.in_ok-assigns.ensures.1 ∙ ap (map (amount_of task l.steps k)) assigns;
        increases = c.in_ok-increases.ensures.1 ∙ ap (map (amount_of task l.steps k)) increases;
        can_assign = can_assign;
        can_increase = can_increase;
      },
    )
