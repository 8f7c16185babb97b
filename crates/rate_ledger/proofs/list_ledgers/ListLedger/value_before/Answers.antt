use Rattle.rate_ledger.proofs.Told.{before_made}
use Rattle.rate_ledger.proofs.list_ledgers.ListLedger.value_before.Goals as goal

pub returns : goal.returns
returns c = before_made c.args.task.now.parts c.args.task.now.well_made c.args.self.now c.requires.keeps c.args.fluent c.form_before.result c.args.step c.as_slice.result.now c.initial_value.result c.requires.told c.as_slice.ensures c.initial_value.ensures c.form_before.ensures
