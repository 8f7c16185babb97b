use Rattle.std.proofs.Common.{ap, ap₂, ◌∙◌, List}
use Rattle.pddl_terms.specs.declared.trees.Group.{Group}
use Rattle.pddl_names.specs.Declarations.{Text, with_new}
use Rattle.ground_world.specs.World.{variable_names}
use Rattle.grounder.proofs.NameSteps.{objects-named}
use Rattle.grounder.proofs.declared_names.object_names.Goals as goal

pub returns : goal.returns
returns c =
    objects-named c.args.domain.now c.args.problem.now c.add_groups.new.found.list c.add_groups-2.new.found.list
    (c.in_ok-add_groups.ensures.list ∙ ap₂ (λ (l : List Text) (gs : List Group). with_new l (variable_names gs)) c.no_names-found.ensures.list c.as_slice.ensures)
    (c.in_ok-add_groups-2.ensures.list ∙ ap (λ (gs : List Group). with_new c.add_groups.new.found.list (variable_names gs)) c.as_slice-2.ensures)
