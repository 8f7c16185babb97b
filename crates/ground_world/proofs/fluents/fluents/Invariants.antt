use Rattle.std.proofs.Common.{◌≡◌, ℕ, List, map, take, ◌&&◌}
use Rattle.ground_world.specs.Shown.{world_of}
use Rattle.ground_world.specs.Building.{is_changing}
use Rattle.ground_world.proofs.Ascending.{has}
use Rattle.ground_world.proofs.fluents.fluents.Given as goal

abbrev pub invariant-loop-fluent : goal.invariant-loop-fluent
invariant-loop-fluent l = (a : List ℕ) → has l.fluents a
    ≡ (is_changing (world_of l.tables) l.functions a && has (map (λ k. k.items) (take l.fluent-index l.fluent-items)) a)
