use Rattle.std.proofs.Common.{drop}
use Rattle.metric_cost.proofs.PieceValues.{PiecesLeft}
use Rattle.metric_cost.proofs.pieces.value_past_0.Given as goal

abbrev pub invariant-loop-piece : goal.invariant-loop-piece
invariant-loop-piece l = PiecesLeft l.pieces l.moment l.lower l.last (drop l.piece-index l.pieces)
