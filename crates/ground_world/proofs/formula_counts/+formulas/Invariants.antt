use Rattle.std.proofs.Common.{◌≡◌, min, map, take}
use Rattle.ground_world.specs.Counts.{formula_count, together}
use Rattle.ground_world.specs.Shown.{world_of}
use Rattle.ground_world.proofs.formula_counts.+formulas.Given as goal

abbrev pub invariant-formula_counts-loop-formula : goal.invariant-formula_counts-loop-formula
invariant-formula_counts-loop-formula l = l.sum ≡ min 65537 (together (map (formula_count (world_of l.tables)) (take l.formula-index l.formulas)))
