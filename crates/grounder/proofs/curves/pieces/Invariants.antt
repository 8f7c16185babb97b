use Rattle.std.proofs.Common.{◌≡◌, take}
use Rattle.std.specs.List.{flat_map}
use Rattle.grounder.specs.Task.{piece_of}
use Rattle.grounder.proofs.curves.pieces.Given as goal

abbrev pub invariant-loop-piece : goal.invariant-loop-piece
invariant-loop-piece l = l.out ≡ flat_map piece_of (take l.piece-index l.list)
