use Rattle.std.proofs.Common.{◌∙◌, ap, []}
use Rattle.std.proofs.lemmas.List.{take_all}
use Rattle.pddl_terms.specs.declared.trees.Group.{Group}
use Rattle.std.specs.Prelude.{List}
use Rattle.pddl_names.specs.Declarations.{typed, typed_of, with_firsts}
use Rattle.pddl_names.proofs.Doubling.{firsts-loop}
use Rattle.ground_world.proofs.declarations.types.Goals as goal

pub loop-group-preserved : goal.loop-group-preserved
loop-group-preserved c = firsts-loop typed_of _ _ _ c.group-item.result _ _ c.loop-group-test.true c.group-item.is c.loop-group.invariant c.in_ok-add_types.ensures

pub returns : goal.returns
returns c = c.loop-group.invariant ∙ ap (λ (gs : List Group). with_firsts [] (typed gs)) (take_all _ _ c.loop-group-test.false ∙ c.as_slice-group-items.ensures)
