use Rattle.std.proofs.Common.{ap, ap₂, ◌∙◌, ◌+◌, Bool, List, Some, None}
use Rattle.std.specs.Prelude.{if◌then◌else◌}
use Rattle.ground_world.specs.World.{Env}
use Rattle.ground_world.specs.Conditions.{DurationBound}
use Rattle.ground_world.specs.Shown.{env_of}
use Rattle.ground_world.specs.ShownBounds.{bounds_of}
use Rattle.grounder.specs.ShownGrounding.{ground_of}
use Rattle.grounder.specs.ShownInstances.{instance_of}
use Rattle.grounder.specs.ShownPieces.{pieces_of}
use Rattle.grounder.specs.Building.{all_bounds}
use Rattle.grounder.proofs.InstanceSteps.{action-instance}
use Rattle.grounder.proofs.actions.action.Goals as goal

pub returns : goal.returns
returns c =
    let g = ground_of c.args.grounding.now in
    let w = c.args.written.now in
    let n = c.args.start in
    action-instance g (instance_of c.args.instance.now) (env_of w.env) (pieces_of w.parts w.outline) c.requires.env c.requires.pieces n _ _ _ _ _ _
    c.of.ensures (c.in_ok-name.ensures ∙ c.as_slice.ensures) (c.in_ok-args.ensures ∙ c.as_slice-2.ensures)
    (c.end_of.ensures ∙ ap (λ (b : Bool). if b then Some (n + 1) else None) c.is_durative.ensures)
    (c.in_ok-bounds.ensures ∙ ap₂ (λ (e : Env) (bs : List DurationBound). all_bounds g e bs) (ap env_of c.as_slice-3.ensures) (ap bounds_of c.as_slice-4.ensures))
    c.in_ok-over_all.ensures
