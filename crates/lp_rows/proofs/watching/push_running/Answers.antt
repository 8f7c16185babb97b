use Rattle.std.proofs.Common.{◌≡◌, ap, ap₂, subst, ◌∙◌, ℕ, suc, ◌+◌, Bool, List, take, arith}
use Rattle.std.specs.Prelude.{option_to_list}
use Rattle.task_types.specs.declared.actions.Snap.{Snap}
use Rattle.task_types.specs.Sets.{is_in}
use Rattle.task_types.specs.Blocking.{start_number}
use Rattle.rate_ledger.specs.Entries.{snap_at}
use Rattle.lp_rows.specs.StepRows.{Compared}
use Rattle.lp_rows.specs.Comparing.{Pushes, action_watch}
use Rattle.lp_rows.proofs.watching.push_running.Goals as goal

pub returns : goal.returns
returns c =
    let task = c.args.task.now.parts in
    let steps = c.args.ledger.now.steps in
    let j = c.args.step in
    let a = c.args.action in
    let next : c.number.result + 1 ≡ suc j = omega (arith, c.number.ensures) in
    let start : c.start_number-start.result ≡ start_number task a 1 (take (suc j) steps) 0 = c.start_number-start.ensures ∙ ap₂ (λ (n : ℕ) (ss : List ℕ). start_number task a 1 (take n ss) 0) next c.as_slice.ensures in
    let own : c.is_own-own.result ≡ is_in a (option_to_list (snap_at task steps j).action) = c.is_own-own.ensures ∙ ap (λ (s : Snap). is_in a (option_to_list s.action)) c.snap.ensures in
    let same = ap₂ (λ (i : ℕ) (b : Bool). action_watch task steps j i b a) start own in
    subst (λ (cs : List Compared). Pushes c.push_action.result c.args.out.now c.push_action.new.out cs) same c.push_action.ensures
