use Rattle.rate_ledger.specs.Sums.{put}
use Rattle.rate_ledger.specs.Entries.{own_start, value_before}
use Rattle.rate_ledger.proofs.Spanned.{span_made}
use Rattle.rate_ledger.proofs.nexts.amount.Goals as goal

pub returns : goal.returns
returns c =
    let task = c.args.task.now.parts in
    let steps = c.args.ledger.now.steps in
    span_made task steps c.args.amount.now.duration (put (value_before task steps c.args.step) c.args.amount.now.form) c.in_ok-form.ensures.0
    (own_start task steps c.args.step) _ c.in_ok-form.form c.with_span.result c.requires.span c.in_ok-form.ensures.1 c.with_span.ensures
