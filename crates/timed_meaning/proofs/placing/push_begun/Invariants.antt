use Rattle.std.proofs.Common.{◌≡◌, ◌+◌, ◌++◌, drop, length}
use Rattle.std.specs.List.{filter}
use Rattle.timed_meaning.specs.Places.{lasts_to, begun_by}
use Rattle.timed_meaning.proofs.placing.push_begun.Given as goal

abbrev pub invariant-loop-i : goal.invariant-loop-i
invariant-loop-i l = record {
  pushed : l.running.items ++ filter (lasts_to l.to) (begun_by l.from (drop l.i l.lines)) ≡ l.fn.running.items ++ filter (lasts_to l.to) (begun_by l.from l.lines);
  counted : l.i + length (begun_by l.from (drop l.i l.lines)) ≡ length (begun_by l.from l.lines);
}
