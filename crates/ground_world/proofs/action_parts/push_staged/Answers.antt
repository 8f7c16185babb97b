use Rattle.std.proofs.Common.{sym, ap, ◌∙◌, false, List, ◌++◌, map}
use Rattle.ground_world.specs.declared.changes.Stage.{Stage}
use Rattle.ground_world.specs.declared.parts.CondPart.{CondPart}
use Rattle.ground_world.specs.Conditions.{Part, condition_parts}
use Rattle.ground_world.specs.Shown.{env_of, world_of, parts_of, turned}
use Rattle.ground_world.proofs.TimedParts.{found_parts, found_stages, parts-staged, stages-staged}
use Rattle.ground_world.proofs.action_parts.push_staged.Goals as goal

pub returns-clause-parts : goal.returns-clause-parts
returns-clause-parts c =
    let ps = condition_parts (world_of c.args.tables.now) (env_of c.args.env.now) c.args.condition.now in
    ap parts_of c.in_ok-append.ensures
    ∙ found_parts c.args.parts.now c.push_parts.new.out ps
    (c.in_ok-push_parts.ensures ∙ ap (λ (l : List CondPart). parts_of l ++ map (turned false) ps) c.new-found.ensures)
    ∙ ap (λ (l : List Part). parts_of c.args.parts.now ++ l) (sym (parts-staged c.args.stage ps))

pub returns-clause-stages : goal.returns-clause-stages
returns-clause-stages c =
    let ps = condition_parts (world_of c.args.tables.now) (env_of c.args.env.now) c.args.condition.now in
    c.in_ok-push_stages.ensures
    ∙ ap (λ (l : List Stage). c.args.stages.now ++ l)
    (found_stages c.args.stage c.len.result c.push_parts.new.out ps c.len.ensures
    (c.in_ok-push_parts.ensures ∙ ap (λ (l : List CondPart). parts_of l ++ map (turned false) ps) c.new-found.ensures)
    ∙ sym (stages-staged c.args.stage ps))
