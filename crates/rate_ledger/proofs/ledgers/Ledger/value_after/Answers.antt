use Rattle.std.proofs.Common.{◌∙◌, arith}
use Rattle.rate_ledger.proofs.Told.{after_made}
use Rattle.rate_ledger.proofs.WholeLists.{first_is}
use Rattle.rate_ledger.proofs.ledgers.Ledger.value_after.Goals as goal

pub returns : goal.returns
returns c = λ task w l.
    after_made task w c.args.self.now.taken l.keeps c.args.fluent c.form_after.result c.args.step c.as_slice.result.now c.first_value.result (omega (arith, c.requires, c.args.self.now.whole)) c.as_slice.ensures
    (c.first_value.ensures ∙ first_is task c.args.self.now l.first c.args.fluent) c.form_after.ensures
