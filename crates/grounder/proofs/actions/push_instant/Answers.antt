use Rattle.std.proofs.Common.{ap, ◌∙◌, ℕ, List, [], ◌∷◌, ◌++◌, false}
use Rattle.rational.specs.Rational.{ℚ}
use Rattle.task_types.specs.declared.actions.Snap.{Snap}
use Rattle.task_types.specs.declared.actions.SnapKind.TheVariants as kind
use Rattle.ground_world.specs.declared.changes.Stage.TheVariants.{AtStart}
use Rattle.ground_world.specs.Shown.{env_of}
use Rattle.grounder.specs.ShownGrounding.{ground_of}
use Rattle.grounder.specs.ShownPieces.{pieces_of}
use Rattle.grounder.specs.Building.{snap_from}
use Rattle.grounder.proofs.actions.push_instant.Goals as goal

pub returns : goal.returns
returns c =
    let i = c.args.instance.now in
    c.in_ok-push.ensures.ok
    ∙ ap (λ (s : Snap). c.args.out.now ++ (s ∷ []))
    (c.in_ok-snap.ensures
    ∙ ap (λ (rs : List (ℕ × ℚ)). snap_from (ground_of c.args.grounding.now) c.args.number false (env_of i.env) (pieces_of i.parts i.outline) kind.Instant AtStart rs) c.new-none.ensures)
