use Rattle.std.proofs.Common.{List, ℕ, map, take}
use Rattle.pddl_names.specs.Declarations.{Text, with_firsts}
use Rattle.ground_world.specs.Building.{Lists, column_of}
use Rattle.ground_world.proofs.columns.add_own_columns.Given as goal

abbrev pub invariant-loop-sort : goal.invariant-loop-sort
invariant-loop-sort l = (es : List (Text × List ℕ)) → Lists l.fn.columns.names l.fn.columns.values es
    → Lists l.columns.names l.columns.values (with_firsts es (map (column_of l.types l.sorts) (take l.sort-index l.sorts)))
