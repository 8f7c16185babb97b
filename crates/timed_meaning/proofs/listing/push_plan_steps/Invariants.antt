use Rattle.std.proofs.Common.{◌≡◌, ◌++◌, take}
use Rattle.std.specs.List.{flat_map, enumerate_from}
use Rattle.timed_meaning.specs.Owned.{owned_line}
use Rattle.timed_meaning.proofs.listing.push_plan_steps.Given as goal

abbrev pub invariant-loop-i : goal.invariant-loop-i
invariant-loop-i l = l.out.items ≡ l.fn.out.items ++ flat_map (owned_line l.parts) (enumerate_from 0 (take l.i l.lines))
