use Rattle.std.proofs.Common.{List, ℕ, ap, sym, subst, map, take, ◌∷◌, []}
use Rattle.pddl_names.specs.Declarations.{Text, with_first, with_firsts}
use Rattle.ground_world.specs.Building.{Lists, column_of}
use Rattle.ground_world.proofs.FirstDeclared.{lists-map}
use Rattle.ground_world.proofs.columns.add_own_columns.Goals as goal

pub loop-sort-preserved : goal.loop-sort-preserved
loop-sort-preserved c = λ es h.
    let own = column_of c.args.types.now c.args.sorts.now in
    let before : List (Text × List ℕ) = with_firsts es (map own (take c.loop-sort.sort-index c.args.sorts.now)) in
    lists-map own es c.args.sorts.now c.loop-sort.sort-index c.sort-item.result _ _ c.loop-sort-test.true c.sort-item.is
    (subst (λ (s : Text). Lists c.add_column.new.columns.names c.add_column.new.columns.values (with_first before (own s))) c.as_slice.ensures
    (c.in_ok-add_column.ensures before (c.loop-sort.invariant es h)))
