use Rattle.std.proofs.Common.{ap, ◌∙◌}
use Rattle.ground_world.specs.ShownLeaves.{lists_of}
use Rattle.ground_world.specs.Shown.{world_of, names_of, columns_of}
use Rattle.grounder.proofs.LeafSteps.{nested_few, nested_envs}
use Rattle.grounder.proofs.quantifying.nested.Goals as goal

pub counted-requires : goal.counted-requires
counted-requires c = nested_few (world_of c.args.tables.now) (lists_of c.args.around.now) _ c.in_ok-nested_variables.ensures.columns c.requires

pub returns : goal.returns
returns c =
    nested_envs (world_of c.args.tables.now) (lists_of c.args.around.now) c.counted.result
    (ap names_of c.counted.ensures ∙ c.in_ok-nested_variables.ensures.names) (ap columns_of c.counted.ensures ∙ c.in_ok-nested_variables.ensures.columns)
