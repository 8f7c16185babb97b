use Rattle.std.proofs.Common.{◌≡◌, ◌≤◌, length, drop}
use Rattle.ordering.specs.Meetings.{stronger, strongest_link}
use Rattle.ordering.proofs.links.strongest.Given as goal

abbrev pub invariant-loop-touch : goal.invariant-loop-touch
invariant-loop-touch l = record {
  within : l.from ≤ length l.seconds;
  so_far : strongest_link l.firsts l.seconds ≡ stronger l.link (strongest_link (drop l.touch-index l.firsts) (drop l.from l.seconds));
}
