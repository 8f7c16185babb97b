use Rattle.std.proofs.Common.{◌≡◌, drop}
use Rattle.rational.specs.Rational.{zeroℚ}
use Rattle.task_types.specs.Cost.{last_to}
use Rattle.metric_cost.proofs.pieces.last_to.Given as goal

abbrev pub invariant-loop-piece : goal.invariant-loop-piece
invariant-loop-piece l = last_to l.last (drop l.piece-index l.pieces) ≡ last_to zeroℚ l.pieces
