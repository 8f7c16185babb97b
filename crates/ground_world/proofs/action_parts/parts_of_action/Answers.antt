use Rattle.std.proofs.Common.{ap, ◌∙◌, List, ◌++◌, map}
use Rattle.ground_world.specs.declared.changes.Stage.{Stage}
use Rattle.ground_world.specs.declared.parts.CondPart.{CondPart}
use Rattle.ground_world.specs.Conditions.{body_conditions}
use Rattle.ground_world.specs.Shown.{env_of, world_of, parts_of}
use Rattle.ground_world.proofs.WithStages.{with_stages-is}
use Rattle.ground_world.proofs.action_parts.parts_of_action.Goals as goal

pub returns : goal.returns
returns c =
    let xs = body_conditions (world_of c.args.tables.now) (env_of c.args.env.now) c.args.body.now in
    with_stages-is xs c.push_conditions.new.parts c.push_conditions.new.stages
    (c.in_ok-push_conditions.ensures.parts ∙ ap (λ (l : List CondPart). parts_of l ++ map (λ x. x.part) xs) c.new-parts.ensures)
    (c.in_ok-push_conditions.ensures.stages ∙ ap (λ (l : List Stage). l ++ map (λ x. x.stage) xs) c.new-stages.ensures)
