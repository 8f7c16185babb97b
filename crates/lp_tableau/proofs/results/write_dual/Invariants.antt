use Rattle.std.proofs.Common.{◌≡◌, length, map, take}
use Rattle.lp_tableau.specs.Lookups.{AreLookedUp}
use Rattle.lp_tableau.proofs.results.write_dual.Given as goal

abbrev pub invariant-loop-j : goal.invariant-loop-j
invariant-loop-j g l = (length l.out ≡ length l.t.rows.items)
    × AreLookedUp g.S.Scalar.value (length l.t.nonbasic.items) (take l.j l.t.nonbasic.items) (map g.S.Scalar.value l.t.cost.items) l.out
