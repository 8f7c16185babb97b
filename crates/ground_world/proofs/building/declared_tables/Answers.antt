use Rattle.std.proofs.Common.{◌≡◌, ◌∙◌, ap, sym, List, ℕ, not, nat_eq, slice_index_or}
use Rattle.std.specs.List.{list_any}
use Rattle.pddl_terms.specs.declared.files.Declared.{Declared}
use Rattle.pddl_names.specs.Declarations.{Text}
use Rattle.ground_world.specs.World.{place_in}
use Rattle.ground_world.specs.FirstState.{types_of, objects_of, signatures_of, names_of}
use Rattle.ground_world.specs.Building.{fitting_places}
use Rattle.ground_world.proofs.FittingPlaces.{fitting-is}
use Rattle.ground_world.proofs.WorldParts.{declared-tables-are}
use Rattle.ground_world.proofs.building.declared_tables.Goals as goal

pub returns : goal.returns
returns c =
    declared-tables-are c.args.domain.now c.args.problem.now c.in_ok-objects.objects.names c.in_ok-predicates.predicates.names c.args.functions
    (λ s. slice_index_or c.in_ok-found.found.columns (place_in c.in_ok-found.found.sorts s) c.in_ok-found.found.others)
    (λ q. not (list_any (nat_eq q) c.in_ok-changed_predicates.changed_predicates))
    (λ q. not (list_any (nat_eq q) c.in_ok-changed_functions.changed_functions))
    c.new.result c.new-2.result c.new-4.result c.new-3.result c.new.ensures c.new-2.ensures c.new-4.ensures c.new-3.ensures
    c.in_ok-objects.ensures.0
    (c.in_ok-predicates.ensures.0 ∙ ap (λ (ds : List Declared). names_of (signatures_of ds)) c.as_slice.ensures)
    c.requires.names
    (λ s. c.in_ok-found.ensures s
    ∙ ap (λ (sorts : List Text). fitting_places (types_of c.args.domain.now) sorts s) (c.as_slice-2.ensures ∙ c.in_ok-objects.ensures.1)
    ∙ sym (fitting-is (types_of c.args.domain.now) s (objects_of c.args.domain.now c.args.problem.now)))
    c.in_ok-changed_predicates.ensures c.in_ok-changed_functions.ensures
