use Rattle.lp_sparse.proofs.turn.second_turn.Goals as goal

pub returns-in-Err : goal.returns-in-Err
returns-in-Err g c = (c.args.j, c.requires.enters, c.in-Err.ensures)
