use Rattle.std.proofs.Common.{◌≡◌, ◌<◌, ◌++◌, drop}
use Rattle.ground_world.specs.Bindings.{choice_count, choice_at, paired}
use Rattle.ground_world.specs.Shown.{env_of, names_of, columns_of}
use Rattle.ground_world.proofs.choosing.bound.Given as goal

abbrev pub invariant-loop-variable : goal.invariant-loop-variable
invariant-loop-variable l = (l.ways ≡ choice_count (columns_of (drop l.variable-index l.variables))) × (l.at < l.ways)
    × (env_of l.out ++ paired (names_of (drop l.variable-index l.variables)) (choice_at (columns_of (drop l.variable-index l.variables)) l.at) ≡ env_of l.env ++ paired (names_of l.variables) (choice_at (columns_of l.variables) l.number))
