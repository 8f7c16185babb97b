use Rattle.std.proofs.Common.{◌≡◌, ◌≤◌, drop}
use Rattle.exact_lin.specs.Reckoning.{wide_limit}
use Rattle.basics.specs.Texts.{number_after}
use Rattle.plan_text.proofs.digits.small_after.Given as goal

abbrev pub invariant-loop-b : goal.invariant-loop-b
invariant-loop-b l = record {
  small : l.n ≤ wide_limit;
  left : number_after l.n (drop l.b-index l.text) ≡ number_after l.start l.text;
}
