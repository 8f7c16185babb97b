use Rattle.std.proofs.Common.{ap₂, ◌∙◌, arith}
use Rattle.rate_ledger.specs.Ledgers.{latest}
use Rattle.rate_ledger.proofs.Told.{rate_told, rate_first}
use Rattle.rate_ledger.proofs.list_ledgers.ListLedger.rate.Goals as goal

pub returns-in-Some : goal.returns-in-Some
returns-in-Some c = λ task w k. rate_told task w c.args.self.now k c.args.fluent _ (omega arith) c.in-Some.change.now (c.in-Some.ensures ∙ ap₂ (latest c.args.fluent) c.as_slice.ensures c.len.ensures)

pub returns-in-None : goal.returns-in-None
returns-in-None c = λ task w k. c.of_int.ensures ∙ rate_first task w c.args.self.now k c.args.fluent _ (omega arith) (c.in-None.ensures ∙ ap₂ (latest c.args.fluent) c.as_slice.ensures c.len.ensures)
