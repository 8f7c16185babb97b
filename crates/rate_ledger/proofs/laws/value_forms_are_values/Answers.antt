use Rattle.std.proofs.Common.{sym, ◌∙◌, ℕ, ◌<◌, ◌≤◌, arith}
use Rattle.rational.specs.Rational.{zeroℚ}
use Rattle.rate_ledger.proofs.Meaning.{entries_show, value_before-is, value_after-is}
use Rattle.rate_ledger.proofs.Slopes.{rates_run}
use Rattle.rate_ledger.proofs.laws.value_forms_are_values.Goals as goal

below : (k n : ℕ) → k < n → k ≤ n
below k n h = omega (arith, h)

pub returns : goal.returns
returns c = record {
  before = λ task steps x k f h l. value_before-is task steps x (rates_run task steps h x) k f (below k _ l);
  after = λ task steps x k f h l. value_after-is task steps x (rates_run task steps h x) k f l;
  rate = λ task steps k f h l. sym (entries_show task steps (λ v. zeroℚ) (rates_run task steps h (λ v. zeroℚ)) k f l).rate ∙ rates_run task steps h (λ v. zeroℚ) k f l;
}
