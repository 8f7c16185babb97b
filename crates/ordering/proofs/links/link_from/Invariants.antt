use Rattle.std.proofs.Common.{◌≡◌, ◌-◌, ◌≤◌, length, drop}
use Rattle.ordering.specs.Meetings.{AreFrom, stronger, link_with}
use Rattle.ordering.proofs.links.link_from.Given as goal

abbrev pub invariant-loop-at : goal.invariant-loop-at
invariant-loop-at l = record {
  within : l.at ≤ length l.touches;
  rest : AreFrom l.touch.0 (drop l.at l.touches);
  so_far : link_with l.touch.0 l.touch.1 (drop l.from l.touches) ≡ stronger l.link (link_with l.touch.0 l.touch.1 (drop l.at l.touches));
}

abbrev pub decreases-loop-at : goal.decreases-loop-at
decreases-loop-at l = length l.touches - l.at
