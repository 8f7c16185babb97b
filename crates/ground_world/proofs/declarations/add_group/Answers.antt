use Rattle.std.proofs.Common.{◌∙◌, ap, ap₂, subst, List, ◌∷◌, [], map, take}
use Rattle.std.specs.List.{flat_map}
use Rattle.std.proofs.lemmas.List.{take_all}
use Rattle.pddl_terms.specs.declared.trees.Name.{Name}
use Rattle.pddl_names.specs.Declarations.{Text, Typed, type_bytes, with_first, with_firsts}
use Rattle.ground_world.proofs.FirstDeclared.{each_as}
use Rattle.ground_world.specs.Building.{Lists}
use Rattle.ground_world.proofs.FirstDeclared.{lists-loop}
use Rattle.ground_world.proofs.declarations.add_group.Goals as goal

pub loop-name-preserved : goal.loop-name-preserved
loop-name-preserved c = λ es h.
    let own : Name → List Typed = λ n. (n.bytes, type_bytes c.args.group.now.of) ∷ [] in
    let before : List Typed = with_firsts es (flat_map own (take c.loop-name.name-index c.as_slice-name-items.result.now)) in
    lists-loop own es _ c.loop-name.name-index c.name-item.result _ _ c.loop-name-test.true c.name-item.is
    (subst (λ (e : Typed). Lists c.add.new.self.names c.add.new.self.values (with_first before e))
    (ap₂ (λ (n s : Text). (n, s)) c.as_slice.ensures (c.in_ok-sort.ensures ∙ c.sort_of.ensures))
    (c.in_ok-add.ensures before (c.loop-name.invariant es h)))

pub returns : goal.returns
returns c = λ es h.
    subst (λ (l : List Typed). Lists c.loop-name.objects.names c.loop-name.objects.values (with_firsts es l))
    (each_as {Y = Typed} (λ n. (n.bytes, type_bytes c.args.group.now.of)) _
    ∙ ap (map {B = Typed} (λ n. (n.bytes, type_bytes c.args.group.now.of))) (take_all _ _ c.loop-name-test.false ∙ c.as_slice-name-items.ensures))
    (c.loop-name.invariant es h)
