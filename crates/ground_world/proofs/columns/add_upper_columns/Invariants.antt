use Rattle.std.proofs.Common.{List, ℕ, map, take}
use Rattle.pddl_names.specs.Declarations.{Text, with_firsts}
use Rattle.ground_world.specs.Building.{Lists, column_of, sorts_above}
use Rattle.ground_world.proofs.columns.add_upper_columns.Given as goal

abbrev pub invariant-loop-group : goal.invariant-loop-group
invariant-loop-group l = (es : List (Text × List ℕ)) → Lists l.fn.columns.names l.fn.columns.values es
    → Lists l.columns.names l.columns.values (with_firsts es (map (column_of l.types l.sorts) (sorts_above (take l.group-index l.groups))))
