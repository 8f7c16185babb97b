use Rattle.std.proofs.Common.{◌≡◌, ◌∙◌, ap, ap₂, sym, subst, List, ℕ, map, []}
use Rattle.pddl_terms.specs.declared.trees.Group.{Group}
use Rattle.pddl_names.specs.Declarations.{Text, Typed, typed, with_firsts}
use Rattle.ground_world.specs.FirstState.{types_of}
use Rattle.ground_world.specs.Building.{Lists, fitting_places, column_of, asked_sorts}
use Rattle.ground_world.proofs.FittingPlaces.{columns-are}
use Rattle.ground_world.proofs.building.fitting.Goals as goal

pub returns : goal.returns
returns c = λ s.
    let found = c.in_ok-found.found in
    let sorts = c.args.sorts.now in
    let same : with_firsts [] (map (column_of c.in_ok-types.types sorts) (asked_sorts c.as_slice.result.now sorts))
    ≡ with_firsts [] (map (column_of (types_of c.args.domain.now) sorts) (asked_sorts c.args.domain.now.types sorts))
    = ap₂ (λ (ts : List Typed) (gs : List Group). with_firsts [] (map (column_of ts sorts) (asked_sorts gs sorts))) c.in_ok-types.ensures c.as_slice.ensures in
    columns-are c.args.domain.now.types sorts found.names found.values c.in_ok-others.others
    (subst (Lists found.names found.values) same c.in_ok-found.ensures) c.in_ok-others.ensures s
