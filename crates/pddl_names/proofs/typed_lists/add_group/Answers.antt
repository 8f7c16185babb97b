use Rattle.std.proofs.Common.{◌∙◌, ap, ◌∷◌, [], map}
use Rattle.std.proofs.lemmas.List.{take_all}
use Rattle.pddl_names.specs.Declarations.{Text, Typed, type_bytes, with_first, with_firsts}
use Rattle.std.proofs.lemmas.List.Concat.{flat_map_single}
use Rattle.pddl_names.proofs.Doubling.{firsts-loop}
use Rattle.pddl_names.proofs.typed_lists.add_group.Goals as goal

pub loop-name-preserved : goal.loop-name-preserved
loop-name-preserved c =
    firsts-loop (λ n. (n.bytes, type_bytes c.args.group.now.of) ∷ []) _ _ _ c.name-item.result _ _ c.loop-name-test.true c.name-item.is c.loop-name.invariant
    (c.in_ok-add.ensures ∙ ap (λ (s : Text). with_first c.loop-name.table (c.as_slice.result.now, s)) c.in_ok-sort.ensures
    ∙ ap (λ (n : Text). with_first c.loop-name.table (n, type_bytes c.args.group.now.of)) c.as_slice.ensures)

pub returns : goal.returns
returns c =
    c.loop-name.invariant ∙ ap (with_firsts c.args.table.now) (flat_map_single {A = Typed} (λ n. (n.bytes, type_bytes c.args.group.now.of)) _
    ∙ ap (map {B = Typed} (λ n. (n.bytes, type_bytes c.args.group.now.of))) (take_all _ _ c.loop-name-test.false ∙ c.as_slice-name-items.ensures))
