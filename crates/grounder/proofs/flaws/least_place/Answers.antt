use Rattle.std.proofs.Common.{◌∙◌}
use Rattle.grounder.proofs.Leasts.{least-at}
use Rattle.grounder.proofs.flaws.least_place.Goals as goal

pub loop-place-preserved : goal.loop-place-preserved
loop-place-preserved c = c.lesser-found.ensures ∙ least-at c.args.places.now c.loop-place.place-index 0 c.loop-place.found c.loop-place-test.true c.loop-place.invariant
