use Rattle.std.proofs.Common.{◌-◌, ◌≤◌, length}
use Rattle.exact_lin.specs.Forms.{shown, place_in}
use Rattle.exact_lin.proofs.terms.place_of.Given as goal

abbrev pub invariant-loop-low : goal.invariant-loop-low
invariant-loop-low g l = let place = place_in (shown g.V.Id.number_of g.S.Scalar.value l.terms) l.number in
    (l.low ≤ place) × (place ≤ l.high) × (l.high ≤ length l.terms)

abbrev pub decreases-loop-low : goal.decreases-loop-low
decreases-loop-low g l = l.high - l.low
