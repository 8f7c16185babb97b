use Rattle.std.proofs.Common.{arith, append_assoc}
use Rattle.task_types.specs.declared.tokens.Token.TheVariants as token
use Rattle.task_types.proofs.Places.{map-numbers-more}
use Rattle.task_types.proofs.touches.tokens.push_fact_tokens.Goals as goal

pub loop-fact-preserved : goal.loop-fact-preserved
loop-fact-preserved c = let more = map-numbers-more token.Fact c.loop-fact.fact in grind (arith, append_assoc, more)
