use Rattle.std.proofs.Common.{◌∙◌, ap₂, sym, subst, List, []}
use Rattle.pddl_terms.specs.declared.trees.Group.{Group}
use Rattle.pddl_names.specs.Declarations.{typed, with_firsts}
use Rattle.pddl_names.proofs.Doubling.{with_firsts-append}
use Rattle.ground_world.specs.Building.{Lists}
use Rattle.ground_world.proofs.declarations.objects.Goals as goal

pub returns : goal.returns
returns c =
    subst (Lists c.add_objects-2.new.objects.names c.add_objects-2.new.objects.values)
    (ap₂ (λ (gs hs : List Group). with_firsts (with_firsts [] (typed gs)) (typed hs)) c.as_slice.ensures c.as_slice-2.ensures
    ∙ sym (with_firsts-append [] (typed c.args.domain.now.constants) (typed c.args.problem.now.objects)))
    (c.in_ok-add_objects-2.ensures (with_firsts [] (typed c.as_slice.result.now)) (c.in_ok-add_objects.ensures [] c.new-objects.ensures))
