use Rattle.rate_ledger.proofs.Told.{after_made}
use Rattle.rate_ledger.proofs.list_ledgers.ListLedger.value_after.Goals as goal

pub returns : goal.returns
returns c = after_made c.args.task.now.parts c.args.task.now.well_made c.args.self.now c.requires.keeps c.args.fluent c.form_after.result c.args.step c.as_slice.result.now c.initial_value.result c.requires.told c.as_slice.ensures c.initial_value.ensures c.form_after.ensures
