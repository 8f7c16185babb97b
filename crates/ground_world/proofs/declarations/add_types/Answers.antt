use Rattle.std.proofs.Common.{◌∙◌, ap, ◌∷◌, [], map}
use Rattle.std.proofs.lemmas.List.{take_all}
use Rattle.pddl_names.specs.Declarations.{Text, Typed, type_bytes, with_first, with_firsts}
use Rattle.pddl_names.proofs.Doubling.{firsts-loop}
use Rattle.ground_world.proofs.FirstDeclared.{each_as}
use Rattle.ground_world.proofs.declarations.add_types.Goals as goal

pub loop-name-preserved : goal.loop-name-preserved
loop-name-preserved c =
    firsts-loop (λ n. (n.bytes, type_bytes c.args.group.now.of) ∷ []) _ _ _ c.name-item.result _ _ c.loop-name-test.true c.name-item.is c.loop-name.invariant
    (c.in_ok-add.ensures ∙ ap (λ (s : Text). with_first c.loop-name.types (c.as_slice.result.now, s)) (c.in_ok-above.ensures ∙ c.sort_of.ensures)
    ∙ ap (λ (n : Text). with_first c.loop-name.types (n, type_bytes c.args.group.now.of)) c.as_slice.ensures)

pub returns : goal.returns
returns c =
    c.loop-name.invariant ∙ ap (with_firsts c.args.types.now) (each_as {Y = Typed} (λ n. (n.bytes, type_bytes c.args.group.now.of)) _
    ∙ ap (map {B = Typed} (λ n. (n.bytes, type_bytes c.args.group.now.of))) (take_all _ _ c.loop-name-test.false ∙ c.as_slice-name-items.ensures))
