use Rattle.std.proofs.Common.{List, subst, arith}
use Rattle.std.proofs.lemmas.List.{drop_all}
use Rattle.task_types.specs.declared.costs.Piece.{Piece}
use Rattle.metric_cost.proofs.PieceValues.{PiecesLeft, next-rises, next-past, next-here, pieces-end}
use Rattle.metric_cost.proofs.pieces.value_past_0.Goals as goal

pub piece_value-requires : goal.piece_value-requires
piece_value-requires c = next-rises c.args.pieces.now c.args.moment c.loop-piece.lower c.loop-piece.last c.loop-piece.piece-index c.piece-item.result c.loop-piece-test.true c.piece-item.is c.loop-piece.invariant
