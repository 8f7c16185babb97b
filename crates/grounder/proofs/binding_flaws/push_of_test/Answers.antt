use Rattle.std.proofs.Common.{ap, ◌∙◌, ◌++◌}
use Rattle.ground_world.specs.Conditions.{difference}
use Rattle.ground_world.specs.Expressions.{Unknowns}
use Rattle.ground_world.specs.Shown.{world_of, test_of}
use Rattle.grounder.proofs.binding_flaws.push_of_test.Goals as goal

pub returns : goal.returns
returns c =
    c.in_ok-_value.ensures.flaws
    ∙ ap (λ (us : Unknowns). c.args.flaws.now ++ (difference (world_of c.args.tables.now) us (test_of c.args.test.now)).flaws) c.no_names-names.ensures
