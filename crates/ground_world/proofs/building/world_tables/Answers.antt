use Rattle.std.proofs.Common.{◌≡◌, ◌∙◌, ap, refl, subst, List, ℕ, [], map}
use Rattle.std.specs.List.{flat_map}
use Rattle.pddl_terms.specs.declared.files.InitEntry.{InitEntry}
use Rattle.pddl_names.specs.Declarations.{Text, with_new, with_firsts}
use Rattle.ground_world.specs.FirstState.{held_atom, given_value}
use Rattle.ground_world.specs.Shown.{world_of}
use Rattle.ground_world.specs.Building.{Lists, is_changing, IsSortedOut}
use Rattle.ground_world.proofs.WorldParts.{first_state-is}
use Rattle.ground_world.proofs.building.world_tables.Goals as goal

pub returns : goal.returns
returns c =
    let w = world_of c.in_ok-tables.tables in
    let state = c.in_ok-state.state in
    let first = state.first in
    c.with_first_state.ensures ∙ first_state-is c.args.domain.now c.args.problem.now w state.held first.fluents state.fluents first.values c.in_ok-functions.functions.values c.args.problem.now.init
    c.in_ok-tables.ensures refl
    (c.in_ok-state.ensures.held ∙ ap (λ (l : List InitEntry). with_new [] (flat_map (held_atom w) l)) c.as_slice-2.ensures)
    (subst (λ (l : List InitEntry). Lists first.fluents first.values (with_firsts [] (flat_map (given_value w) l))) c.as_slice-2.ensures c.in_ok-state.ensures.first)
    c.in_ok-functions.ensures.values
    (subst (λ (l : List (List Text)). IsSortedOut (is_changing w l) first.fluents state.fluents) c.as_slice.ensures c.in_ok-state.ensures.fluents)
