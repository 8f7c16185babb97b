use Rattle.std.proofs.Common.{sym, ap, ◌∙◌}
use Rattle.task_types.specs.Sets.{is_in}
use Rattle.task_types.specs.Touch.{bent_fluents}
use Rattle.rate_ledger.specs.Entries.{entries}
use Rattle.rate_ledger.proofs.Changed.{rate_bent, rate_kept}
use Rattle.rate_ledger.proofs.amounts.changed_rate.Goals as goal

pub returns-then-is_bent : goal.returns-then-is_bent
returns-then-is_bent c = rate_bent c.args.task.now.parts c.args.ledger.now.steps c.args.next.now.step c.args.fluent c.rate_of.result c.as_slice.result.now
    (sym (c.is_bent.ensures ∙ ap (λ s. is_in c.args.fluent (bent_fluents c.args.task.now.parts s)) c.snap.ensures) ∙ c.if-is_bent.true)
    (c.as_slice.ensures ∙ c.requires.next.running)
    c.rate_of.ensures

pub returns : goal.returns
returns c = rate_kept c.args.task.now.parts c.args.ledger.now.steps c.args.next.now.step c.args.fluent c.rate.result
    (sym (c.is_bent.ensures ∙ ap (λ s. is_in c.args.fluent (bent_fluents c.args.task.now.parts s)) c.snap.ensures) ∙ c.if-is_bent.false)
    (c.rate.ensures c.args.task.now.parts c.args.task.now.well_made c.requires.keeps ∙ ap (λ n. (entries c.args.task.now.parts c.args.ledger.now.steps n c.args.fluent).rate) (sym c.requires.next.step))
