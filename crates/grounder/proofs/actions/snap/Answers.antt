use Rattle.std.proofs.Common.{ap, ap₂, ◌∙◌, List, Some}
use Rattle.ground_world.specs.World.{Env}
use Rattle.ground_world.specs.Changes.{Change, Staged, parts_at}
use Rattle.ground_world.specs.Shown.{env_of}
use Rattle.ground_world.specs.ShownChanges.{changes_of}
use Rattle.grounder.specs.ShownGrounding.{ground_of}
use Rattle.grounder.specs.Task.{effect}
use Rattle.grounder.proofs.InstanceSteps.{snap-same}
use Rattle.grounder.proofs.actions.snap.Goals as goal

pub returns : goal.returns
returns c =
    snap-same c.args.kind (Some c.of.result) (Some c.args.number) _ _ _ _ c.args.rates (ap Some c.of.ensures) c.in_ok-condition.ensures
    (c.in_ok-effect.ensures
    ∙ ap₂ (λ (e : Env) (xs : List (Staged Change)). effect (ground_of c.args.grounding.now) c.args.durative e (parts_at c.args.stage.now xs))
    (ap env_of c.as_slice-env.ensures) (ap changes_of c.as_slice-changes.ensures))
