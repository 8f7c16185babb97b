use Rattle.std.proofs.Common.{◌∙◌}
use Rattle.rate_ledger.proofs.Told.{end_made}
use Rattle.rate_ledger.proofs.WholeLists.{first_is}
use Rattle.rate_ledger.proofs.ledgers.Ledger.value_end.Goals as goal

pub returns : goal.returns
returns c = λ task w l.
    end_made task w c.args.self.now.taken l.keeps c.args.fluent c.in_ok-form.form c.as_slice.result.now c.first_value.result c.args.self.now.whole c.as_slice.ensures
    (c.first_value.ensures ∙ first_is task c.args.self.now l.first c.args.fluent) c.in_ok-form.ensures
