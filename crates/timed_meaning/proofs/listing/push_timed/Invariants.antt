use Rattle.std.proofs.Common.{◌≡◌, ◌++◌, map, take}
use Rattle.std.specs.List.{enumerate_from}
use Rattle.timed_meaning.specs.Owned.{owned_moment}
use Rattle.timed_meaning.proofs.listing.push_timed.Given as goal

abbrev pub invariant-loop-i : goal.invariant-loop-i
invariant-loop-i l = l.out.items ≡ l.fn.out.items ++ map (owned_moment l.behind) (enumerate_from 0 (take l.i l.timed))
