use Rattle.std.proofs.Common.{◌≡◌, ◌∷◌, length, map, take}
use Rattle.rational.specs.Rational.{oneℚ, neg_ℚ}
use Rattle.lp_tableau.specs.Dictionaries.{row_of, basic_of}
use Rattle.lp_tableau.specs.Lookups.{AreLookedUp}
use Rattle.lp_sparse.specs.SparseTableaus.{dictionary_of}
use Rattle.lp_sparse.proofs.results.write_farkas.Given as goal

abbrev pub invariant-loop-j : goal.invariant-loop-j
invariant-loop-j g l = (length l.out ≡ length (dictionary_of g.S.Scalar.value l.t).rows)
    × AreLookedUp g.T.Scalar.value (length l.t.nonbasic.items) (basic_of (dictionary_of g.S.Scalar.value l.t) l.i ∷ take l.j l.t.nonbasic.items) (oneℚ ∷ map neg_ℚ (row_of (dictionary_of g.S.Scalar.value l.t) l.i)) l.out
