use Rattle.std.proofs.Common.{List, ℕ, subst, sym, ap, ◌∙◌, map, [], ◌∷◌, ◌++◌}
use Rattle.std.proofs.lemmas.List.{map-append}
use Rattle.pddl_names.specs.Declarations.{Text, object_word, with_first, with_firsts}
use Rattle.pddl_names.proofs.Doubling.{with_firsts-append}
use Rattle.ground_world.specs.Building.{Lists, column_of, sorts_above}
use Rattle.ground_world.proofs.columns.columns.Goals as goal

pub returns : goal.returns
returns c =
    let own = column_of c.args.types.now c.args.sorts.now in
    let first : List (Text × List ℕ) = own object_word ∷ [] in
    let start : List (Text × List ℕ) = with_first first (own []) in
    let upper = sorts_above c.args.groups.now in
    subst (Lists c.add_upper_columns.new.columns.names c.add_upper_columns.new.columns.values)
    (sym (ap (with_firsts start) (map-append own c.args.sorts.now upper) ∙ with_firsts-append start (map own c.args.sorts.now) (map own upper)))
    (c.in_ok-add_upper_columns.ensures (with_firsts start (map own c.args.sorts.now))
    (c.in_ok-add_own_columns.ensures start (c.in_ok-add_column-2.ensures first (c.in_ok-add_column.ensures [] c.new-columns.ensures))))
