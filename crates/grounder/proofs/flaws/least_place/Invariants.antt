use Rattle.std.proofs.Common.{◌≡◌, take}
use Rattle.grounder.specs.Answer.{least}
use Rattle.grounder.proofs.flaws.least_place.Given as goal

abbrev pub invariant-loop-place : goal.invariant-loop-place
invariant-loop-place l = l.found ≡ least (take l.place-index l.places)
