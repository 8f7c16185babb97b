use Rattle.std.proofs.Common.{◌≡◌, ◌++◌, ◌==◌, map, take}
use Rattle.std.specs.List.{flat_map, filter}
use Rattle.lp_rows.specs.StepRows.{moment_rows}
use Rattle.lp_rows.proofs.placed.push_moments.Given as goal

abbrev pub invariant-loop-timed : goal.invariant-loop-timed
invariant-loop-timed l = l.out ≡ l.fn.out ++ flat_map (moment_rows l.step) (map (λ m. m.0) (filter (λ m. m.1 == l.snap) (take l.timed-index l.timed-items)))
