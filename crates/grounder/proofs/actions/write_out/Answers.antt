use Rattle.std.proofs.Common.{ap, ◌∙◌}
use Rattle.ground_world.specs.World.{Env}
use Rattle.ground_world.specs.Conditions.{body_conditions}
use Rattle.ground_world.specs.Shown.{env_of, world_of}
use Rattle.grounder.proofs.InstanceSteps.{pieces-same}
use Rattle.grounder.proofs.actions.write_out.Goals as goal

pub returns-clause-pieces : goal.returns-clause-pieces
returns-clause-pieces c =
    pieces-same _ _ _ _ _ _
    (c.in_ok-parts.ensures ∙ ap (λ (e : Env). body_conditions (world_of c.args.tables.now) e c.args.instance.now.action.now.body) (ap env_of c.as_slice.ensures ∙ c.in_ok-env.ensures))
    c.in_ok-outline.ensures.bounds c.in_ok-outline.ensures.changes
