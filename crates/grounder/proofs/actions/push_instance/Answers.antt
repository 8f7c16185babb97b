use Rattle.std.proofs.Common.{ap, ap₂, ◌∙◌, ℕ, Bool, List, [], ◌∷◌, ◌++◌, length}
use Rattle.task_types.specs.declared.actions.Action.{Action}
use Rattle.task_types.specs.declared.actions.Snap.{Snap}
use Rattle.ground_world.specs.Shown.{env_of}
use Rattle.grounder.specs.ShownGrounding.{ground_of}
use Rattle.grounder.specs.ShownInstances.{instance_of}
use Rattle.grounder.specs.ShownPieces.{pieces_of}
use Rattle.grounder.specs.Building.{snaps_from}
use Rattle.grounder.specs.Task.{action_of}
use Rattle.grounder.proofs.InstanceSteps.{snaps-instance}
use Rattle.grounder.proofs.actions.push_instance.Goals as goal

pub returns-clause-actions : goal.returns-clause-actions
returns-clause-actions c =
    c.in_ok-push.ensures.ok
    ∙ ap (λ (a : Action). c.args.out.now.actions ++ (a ∷ []))
    (c.in_ok-action.ensures ∙ ap (λ (n : ℕ). action_of (ground_of c.args.grounding.now) n (instance_of c.args.instance.now)) c.len-start.ensures)

pub returns-clause-snaps : goal.returns-clause-snaps
returns-clause-snaps c =
    let g = ground_of c.args.grounding.now in
    let i = instance_of c.args.instance.now in
    let x = c.in_ok-written.written in
    c.in_ok-push_snaps.ensures
    ∙ ap (λ (ss : List Snap). c.args.out.now.snaps ++ ss)
    (ap₂ (λ (n : ℕ) (b : Bool). snaps_from g n b (env_of x.env) (pieces_of x.parts x.outline)) c.len-number.ensures c.is_durative-durative.ensures
    ∙ snaps-instance g i (env_of x.env) (pieces_of x.parts x.outline) c.in_ok-written.ensures.env c.in_ok-written.ensures.pieces (length c.args.out.now.actions))
