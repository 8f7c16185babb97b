use Rattle.std.proofs.Common.{◌≡◌, ap, ◌∙◌, ◌++◌, length, suc}
use Rattle.task_types.specs.Sets.{numbers}
use Rattle.rate_ledger.specs.Entries.{snap_at}
use Rattle.rate_ledger.specs.Ledgers.{Keeps}
use Rattle.rate_ledger.specs.Picking.{CanMakeAmounts}
use Rattle.rate_ledger.specs.Reckoned.{AreDefined, step_made}
use Rattle.rate_ledger.proofs.Changing.{due}
use Rattle.rate_ledger.proofs.Failing.{hands_on, gives_more, either_way}
use Rattle.rate_ledger.proofs.Keeping.{amounts_needed, changes_needed, step_made_whole, with_step, one_longer, Keeps-next}
use Rattle.rate_ledger.proofs.list_ledgers.ListLedger.push.Goals as goal

pub returns-in_err-next-clause-answer : goal.returns-in_err-next-clause-answer
returns-in_err-next-clause-answer c =
    let task = c.args.task.now.parts in
    let l = c.args.self.now in
    let s = snap_at task l.steps (length l.changes) in
    hands_on (CanMakeAmounts task l.steps (length l.changes) (s.effect.assigns ++ s.effect.increases)) (AreDefined (step_made task l.steps (length l.changes))) _ c.from_residual.result _ c.from_residual.ensures
    (amounts_needed task l.steps (length l.changes)) c.in_err-next.ensures

pub returns-in_err-made-clause-answer : goal.returns-in_err-made-clause-answer
returns-in_err-made-clause-answer c =
    let task = c.args.task.now.parts in
    let l = c.args.self.now in
    let n = c.in_ok-next.next in
    hands_on (AreDefined (due task l.steps n.step (numbers (length task.fluents)))) (AreDefined (step_made task l.steps (length l.changes))) _ c.from_residual-in_err-made.result _ c.from_residual-in_err-made.ensures
    (changes_needed task l.steps (length l.changes) n.step c.in_ok-next.ensures.1.step) c.in_err-made.ensures

pub returns-clause-answer : goal.returns-clause-answer
returns-clause-answer c =
    let task = c.args.task.now.parts in
    let l = c.args.self.now in
    let n = c.in_ok-next.next in
    gives_more c.keep.result (AreDefined (step_made task l.steps (length l.changes))) (λ _. c.keep.new.self ≡ with_step l n c.in_ok-made.made) (λ _. length c.keep.new.self.changes ≡ suc (length l.changes))
    (step_made_whole task l c.requires.keeps n c.in_ok-next.ensures.1 c.requires.next c.in_ok-made.made c.in_ok-next.ensures.0 c.in_ok-made.ensures.0)
    (λ _ e. ap (λ m. length m.changes) e ∙ one_longer l c.in_ok-made.made)
    c.keep.ensures.ok

pub returns-clause-keeps : goal.returns-clause-keeps
returns-clause-keeps c =
    let task = c.args.task.now.parts in
    let l = c.args.self.now in
    let n = c.in_ok-next.next in
    either_way (Keeps task) c.keep.result c.keep.new.self (with_step l n c.in_ok-made.made) l c.keep.ensures.ok c.keep.ensures.err
    (Keeps-next task l c.requires.keeps n c.in_ok-next.ensures.1 c.requires.next c.in_ok-made.made c.in_ok-made.ensures.1
    (step_made_whole task l c.requires.keeps n c.in_ok-next.ensures.1 c.requires.next c.in_ok-made.made c.in_ok-next.ensures.0 c.in_ok-made.ensures.0))
    c.requires.keeps
