use Rattle.std.proofs.Common.{◌≡◌, length, map, take}
use Rattle.lp_tableau.specs.Lookups.{AreLookedUp}
use Rattle.lp_sparse.specs.SparseTableaus.{dictionary_of}
use Rattle.lp_sparse.proofs.results.write_dual.Given as goal

abbrev pub invariant-loop-j : goal.invariant-loop-j
invariant-loop-j g l = (length l.out ≡ length (dictionary_of g.S.Scalar.value l.t).rows)
    × AreLookedUp g.T.Scalar.value (length l.t.nonbasic.items) (take l.j l.t.nonbasic.items) (dictionary_of g.S.Scalar.value l.t).cost l.out
