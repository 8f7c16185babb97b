use Rattle.metric_cost.proofs.PieceValues.{piece-told, piece-stopped}
use Rattle.metric_cost.proofs.pieces.piece_value.Goals as goal

pub returns-in-Ok : goal.returns-in-Ok
returns-in-Ok c = piece-told c.args.lower c.args.moment c.in-Ok.slope c.args.piece.now c.risen.result c.in-Ok.ensures.0 c.in-Ok.ensures.1 c.risen.ensures

pub returns-in-Err : goal.returns-in-Err
returns-in-Err c = piece-stopped c.args.lower c.args.moment c.args.piece.now c.in-Err.ensures
