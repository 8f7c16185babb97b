use Rattle.std.proofs.Common.{◌≡◌, sym, ap, ap₂, ◌∙◌, List, length, arith}
use Rattle.ground_world.specs.declared.changes.Stage.{Stage}
use Rattle.ground_world.specs.declared.parts.CondPart.{CondPart}
use Rattle.ground_world.specs.Changes.{parts_at}
use Rattle.ground_world.specs.ShownParts.{with_stages}
use Rattle.grounder.specs.ShownGrounding.{ground_of}
use Rattle.grounder.specs.Task as task
use Rattle.grounder.proofs.BuildingSteps.{condition-step, own_item, all_taken}
use Rattle.grounder.proofs.action_conditions.action_condition.Goals as goal

pub loop-at-preserved : goal.loop-at-preserved
loop-at-preserved c =
    let ps = c.as_slice-parts.result.now in
    let ss = c.as_slice-stages.result.now in
    let same : length ss ≡ length ps = ap length c.as_slice-stages.ensures ∙ c.args.conditions.now.same_length ∙ sym (ap length c.as_slice-parts.ensures) in
    condition-step (ground_of c.args.grounding.now) c.args.stage.now ps ss c.loop-at.at c.index-parts-at.result _
    c.loop-at-test.true same c.index-parts-at.is (own_item ss c.loop-at.at _ (omega (arith, same, c.loop-at-test.true))) c.loop-at.condition c.push_part_at.new.condition
    c.loop-at.invariant c.in_ok-push_part_at.ensures

pub returns : goal.returns
returns c =
    let ps = c.as_slice-parts.result.now in
    let ss = c.as_slice-stages.result.now in
    let same : length ss ≡ length ps = ap length c.as_slice-stages.ensures ∙ c.args.conditions.now.same_length ∙ sym (ap length c.as_slice-parts.ensures) in
    let f = task.action_condition (ground_of c.args.grounding.now) in
    c.loop-at.invariant ∙ ap (λ xs. f (parts_at c.args.stage.now xs)) (all_taken ps ss c.loop-at.at same c.loop-at-test.false)
    ∙ ap₂ (λ (qs : List CondPart) (ts : List Stage). f (parts_at c.args.stage.now (with_stages qs ts))) c.as_slice-parts.ensures c.as_slice-stages.ensures
