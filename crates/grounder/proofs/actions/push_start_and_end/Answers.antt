use Rattle.std.proofs.Common.{ap, ap₂, ◌∙◌, ℕ, List, true}
use Rattle.std.specs.List.{flat_map}
use Rattle.rational.specs.Rational.{ℚ}
use Rattle.task_types.specs.declared.actions.SnapKind.TheVariants as kind
use Rattle.ground_world.specs.World.{Env}
use Rattle.ground_world.specs.declared.changes.Stage.TheVariants.{AtStart, AtEnd}
use Rattle.ground_world.specs.Changes.{Change, Staged}
use Rattle.ground_world.specs.Shown.{env_of}
use Rattle.ground_world.specs.ShownChanges.{changes_of}
use Rattle.grounder.specs.ShownGrounding.{ground_of}
use Rattle.grounder.specs.ShownPieces.{pieces_of}
use Rattle.grounder.specs.Building.{snap_from}
use Rattle.grounder.specs.Task.{fluent_rates}
use Rattle.grounder.proofs.InstanceSteps.{two-pushed}
use Rattle.grounder.proofs.actions.push_start_and_end.Goals as goal

pub returns : goal.returns
returns c =
    let g = ground_of c.args.grounding.now in
    let n = c.args.number in
    let i = c.args.instance.now in
    let e = env_of i.env in
    let x = pieces_of i.parts i.outline in
    two-pushed c.args.out.now c.push.new.self c.push-2.new.self c.in_ok-start.start c.in_ok-end.end _ _ c.in_ok-push.ensures.ok c.in_ok-push-2.ensures.ok
    (c.in_ok-start.ensures
    ∙ ap (λ (rs : List (ℕ × ℚ)). snap_from g n true e x kind.Start AtStart rs)
    (c.in_ok-rates.ensures ∙ ap₂ (λ (b : Env) (cs : List (Staged Change)). flat_map (λ c. fluent_rates g b c.part) cs) (ap env_of c.as_slice.ensures) (ap changes_of c.as_slice-changes.ensures)))
    (c.in_ok-end.ensures ∙ ap (λ (rs : List (ℕ × ℚ)). snap_from g n true e x kind.End AtEnd rs) c.new-none.ensures)
