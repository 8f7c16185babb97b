use Rattle.std.proofs.Common.{◌∙◌, ap, [], ◌∷◌, ◌++◌}
use Rattle.std.specs.Prelude.{replicate}
use Rattle.std.proofs.lemmas.List.{replicate_more}
use Rattle.task_types.proofs.touches.rows.empty_rows.Goals as goal

pub loop-preserved : goal.loop-preserved
loop-preserved g c = (c.in_ok-push.ensures {u = tt}).items ∙ ap (λ l. l ++ c.new.result ∷ []) c.loop.invariant ∙ ap (λ x. replicate c.loop.counter [] ++ x ∷ []) c.new.ensures ∙ replicate_more c.loop.counter []
