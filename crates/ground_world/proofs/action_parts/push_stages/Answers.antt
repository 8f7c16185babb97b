use Rattle.std.proofs.Common.{ap, ◌∙◌, List, [], ◌∷◌, ◌++◌, replicate, append_assoc}
use Rattle.std.proofs.lemmas.List.{replicate-append-replicate}
use Rattle.ground_world.specs.declared.changes.Stage.{Stage}
use Rattle.ground_world.proofs.action_parts.push_stages.Goals as goal

pub loop-part-preserved : goal.loop-part-preserved
loop-part-preserved c =
    c.in_ok-push.ensures.ok ∙ ap (λ (l : List Stage). l ++ (c.args.stage ∷ [])) c.loop-part.invariant
    ∙ append_assoc c.args.stages.now (replicate c.loop-part._part c.args.stage) (c.args.stage ∷ [])
    ∙ ap (λ (l : List Stage). c.args.stages.now ++ l) (replicate-append-replicate c.loop-part._part 1 c.args.stage)
