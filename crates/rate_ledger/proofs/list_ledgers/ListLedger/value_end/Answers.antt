use Rattle.rate_ledger.proofs.Told.{end_made}
use Rattle.rate_ledger.proofs.list_ledgers.ListLedger.value_end.Goals as goal

pub returns : goal.returns
returns c = end_made c.args.task.now.parts c.args.task.now.well_made c.args.self.now c.requires.keeps c.args.fluent c.in_ok-form.form c.as_slice.result.now c.initial_value.result c.requires.told c.as_slice.ensures c.initial_value.ensures c.in_ok-form.ensures
