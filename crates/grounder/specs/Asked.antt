-- Private: how many literals and comparisons lists of goals and quantified goals have, preferences aside.
use Rattle.std.specs.Prelude.{ℕ, List, map, Option, Some, None}
use Rattle.pddl_terms.specs.declared.trees.Group.{Group}
use Rattle.pddl_terms.specs.declared.trees.GoalTree.{GoalTree}
use Rattle.pddl_terms.specs.declared.trees.GoalTree.TheOpen.{GoalTree-F}
use Rattle.ground_world.specs.World.{World, either}
use Rattle.ground_world.specs.Counts.{hard_count, goal_count_layer, written_out}

abbrev pub count_of : Option ℕ → ℕ
count_of n = either 0 (λ k. k) n

-- the count of an `and` of some goals
abbrev pub all_count : World → List GoalTree → Option ℕ
all_count w gs = goal_count_layer w (GoalTree-F.And 0 (map (hard_count w) gs))

-- the count of a quantified goal
abbrev pub written_count : World → List Group → Option ℕ → Option ℕ
written_count w vars body = either None (λ n. Some (written_out w vars n)) body
