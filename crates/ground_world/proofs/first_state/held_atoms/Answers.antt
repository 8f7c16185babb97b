use Rattle.std.proofs.Common.{List, ℕ, ap, sym, ◌∙◌, take, []}
use Rattle.std.specs.List.{flat_map}
use Rattle.pddl_names.specs.Declarations.{with_new}
use Rattle.pddl_names.proofs.Doubling.{with_new-append}
use Rattle.ground_world.specs.FirstState.{held_atom}
use Rattle.ground_world.specs.Shown.{world_of}
use Rattle.ground_world.proofs.Steps.{parts_more}
use Rattle.ground_world.proofs.first_state.held_atoms.Goals as goal

pub loop-entry-preserved : goal.loop-entry-preserved
loop-entry-preserved c =
    let own = held_atom (world_of c.args.tables.now) in
    let done : List (List ℕ) = flat_map own (take c.loop-entry.entry-index c.args.entries.now) in
    c.in_ok-add_held.ensures ∙ ap (λ (l : List (List ℕ)). with_new l (own c.entry-item.result)) c.loop-entry.invariant
    ∙ sym (with_new-append [] done (own c.entry-item.result))
    ∙ ap (with_new []) (sym (parts_more own c.args.entries.now c.loop-entry.entry-index c.entry-item.result c.loop-entry-test.true c.entry-item.is))
