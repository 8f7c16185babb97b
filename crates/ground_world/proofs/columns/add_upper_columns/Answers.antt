use Rattle.std.proofs.Common.{List, ℕ, ap, sym, subst, map, take, ◌∷◌, []}
use Rattle.pddl_terms.specs.declared.trees.Group.{Group}
use Rattle.pddl_names.specs.Declarations.{Text, type_bytes, with_first, with_firsts}
use Rattle.ground_world.specs.Building.{Lists, column_of, sorts_above}
use Rattle.ground_world.proofs.FirstDeclared.{lists-map_of}
use Rattle.ground_world.proofs.columns.add_upper_columns.Goals as goal

pub loop-group-preserved : goal.loop-group-preserved
loop-group-preserved c = λ es h.
    let own = column_of c.args.types.now c.args.sorts.now in
    let before : List (Text × List ℕ) = with_firsts es (map own (sorts_above (take c.loop-group.group-index c.args.groups.now))) in
    lists-map_of own (λ (g : Group). type_bytes g.of) es c.args.groups.now c.loop-group.group-index c.group-item.result _ _ c.loop-group-test.true c.group-item.is
    (subst (λ (s : Text). Lists c.add_column.new.columns.names c.add_column.new.columns.values (with_first before (own s))) c.sort_of.ensures
    (c.in_ok-add_column.ensures before (c.loop-group.invariant es h)))
