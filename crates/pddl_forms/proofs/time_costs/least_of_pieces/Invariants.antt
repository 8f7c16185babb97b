use Rattle.std.proofs.Common.{◌≡◌, length}
use Rattle.pddl_forms.specs.Offences.{least_with}
use Rattle.rational.specs.Rational.{zeroℚ}
use Rattle.pddl_forms.specs.TimeCosts.{pieces_from}
use Rattle.pddl_forms.proofs.time_costs.least_of_pieces.Given as goal

abbrev pub decreases-loop-piece : goal.decreases-loop-piece
decreases-loop-piece l = length l.left

abbrev pub invariant-loop-piece : goal.invariant-loop-piece
invariant-loop-piece l = least_with l.reached.found (pieces_from l.reached.moment l.reached.cost l.left) ≡ least_with l.fn.found (pieces_from zeroℚ zeroℚ l.fn.pieces)
