use Rattle.std.proofs.Common.{arith, append_assoc, false}
use Rattle.std.specs.Prelude.{slice_index_or}
use Rattle.task_types.specs.declared.tokens.Token.TheVariants as token
use Rattle.task_types.proofs.Places.{map-filter-numbers-more}
use Rattle.task_types.proofs.touches.tokens.push_fluent_tokens.Goals as goal

pub loop-fluent-preserved : goal.loop-fluent-preserved
loop-fluent-preserved c = let more = map-filter-numbers-more token.Fluent (λ f. slice_index_or c.args.flags.now f false) c.loop-fluent.fluent in grind (arith, append_assoc, more)
