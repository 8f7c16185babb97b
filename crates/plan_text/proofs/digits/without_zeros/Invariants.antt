use Rattle.std.proofs.Common.{◌≡◌, ◌-◌, ◌≤◌, length, drop}
use Rattle.basics.specs.Texts.{number}
use Rattle.plan_text.proofs.digits.without_zeros.Given as goal

abbrev pub invariant-loop-zeros : goal.invariant-loop-zeros
invariant-loop-zeros l = record {
  within : l.zeros ≤ length l.text;
  number : number (drop l.zeros l.text) ≡ number l.text;
}

abbrev pub decreases-loop-zeros : goal.decreases-loop-zeros
decreases-loop-zeros l = length l.text - l.zeros
