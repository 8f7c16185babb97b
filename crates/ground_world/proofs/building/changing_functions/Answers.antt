use Rattle.std.proofs.Common.{◌≡◌, ◌∙◌, ap, sym, refl, List, ℕ, not, nat_eq, [], ◌++◌, ◌==◌}
use Rattle.std.specs.List.{flat_map, list_any}
use Rattle.pddl_terms.specs.declared.files.ActionDef.{ActionDef}
use Rattle.pddl_names.specs.Declarations.{Text}
use Rattle.ground_world.specs.World.{place_in}
use Rattle.ground_world.specs.Changes.{changes}
use Rattle.ground_world.specs.FirstState.{changed_function}
use Rattle.ground_world.proofs.building.changing_functions.Goals as goal

pub returns : goal.returns
returns c = λ f.
    ap not (c.in_ok-mark_changed_functions.ensures [] (λ q. ap (list_any (nat_eq q)) c.new-places.ensures) f
    ∙ ap (λ (as_written : List ActionDef). list_any (λ n. place_in c.args.names.now n == f) (flat_map (λ a. flat_map (λ s. changed_function s.part) (changes a)) as_written)) c.as_slice.ensures)
