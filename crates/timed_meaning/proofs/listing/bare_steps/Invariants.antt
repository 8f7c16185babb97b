use Rattle.std.proofs.Common.{◌≡◌, take}
use Rattle.timed_meaning.specs.Owned.{steps_of}
use Rattle.timed_meaning.proofs.listing.bare_steps.Given as goal

abbrev pub invariant-loop-owned : goal.invariant-loop-owned
invariant-loop-owned l = l.out.items ≡ steps_of (take l.owned-index l.steps)
