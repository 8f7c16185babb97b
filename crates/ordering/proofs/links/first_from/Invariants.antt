use Rattle.std.proofs.Common.{◌≡◌, ℕ, ◌-◌, ◌≤◌, length, drop}
use Rattle.task_types.specs.declared.tokens.Touch.{Touch}
use Rattle.ordering.specs.Meetings.{link_with}
use Rattle.ordering.proofs.links.first_from.Given as goal

abbrev pub invariant-loop-at : goal.invariant-loop-at
invariant-loop-at l = record {
  within : l.at ≤ length l.touches;
  skipped : (n : ℕ) (t : Touch) → l.token ≤ n → link_with n t (drop l.from l.touches) ≡ link_with n t (drop l.at l.touches);
}

abbrev pub decreases-loop-at : goal.decreases-loop-at
decreases-loop-at l = length l.touches - l.at
