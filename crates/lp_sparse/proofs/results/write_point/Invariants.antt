use Rattle.std.proofs.Common.{◌≡◌, length, map, take}
use Rattle.rational.specs.Lists.{at}
use Rattle.lp_tableau.specs.Lookups.{AreLookedUp}
use Rattle.lp_sparse.specs.SparseTableaus.{dictionary_of}
use Rattle.lp_sparse.proofs.results.write_point.Given as goal

abbrev pub invariant-loop-i : goal.invariant-loop-i
invariant-loop-i g l = (length l.out ≡ length l.t.nonbasic.items)
    × AreLookedUp g.T.Scalar.value 0 (take l.i l.t.basic.items) (map (λ row. at row (length l.t.nonbasic.items)) (dictionary_of g.S.Scalar.value l.t).rows) l.out
