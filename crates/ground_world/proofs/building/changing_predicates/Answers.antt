use Rattle.std.proofs.Common.{◌≡◌, ◌∙◌, ap, ap₂, sym, refl, List, ℕ, not, nat_eq, [], ◌++◌, ◌==◌}
use Rattle.std.specs.List.{flat_map, list_any}
use Rattle.pddl_terms.specs.declared.files.ActionDef.{ActionDef}
use Rattle.pddl_terms.specs.declared.files.InitEntry.{InitEntry}
use Rattle.pddl_names.specs.Declarations.{Text}
use Rattle.ground_world.specs.World.{place_in}
use Rattle.ground_world.specs.Changes.{changes}
use Rattle.ground_world.specs.FirstState.{changed_predicate, timed_predicate}
use Rattle.ground_world.proofs.building.changing_predicates.Goals as goal

pub returns : goal.returns
returns c = λ p.
    let own : List ActionDef → List Text = λ as_written. flat_map (λ a. flat_map (λ s. changed_predicate s.part) (changes a)) as_written in
    ap not (c.in_ok-mark_all_timed.ensures (own c.as_slice.result.now) (c.in_ok-mark_changed_predicates.ensures [] (λ q. ap (list_any (nat_eq q)) c.new-places.ensures)) p
    ∙ ap₂ (λ (as_written : List ActionDef) (entries : List InitEntry). list_any (λ n. place_in c.args.names.now n == p) (own as_written ++ flat_map timed_predicate entries)) c.as_slice.ensures c.as_slice-2.ensures)
