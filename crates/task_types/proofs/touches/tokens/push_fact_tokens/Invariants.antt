use Rattle.std.proofs.Common.{◌≡◌, ◌++◌, map}
use Rattle.task_types.specs.declared.tokens.Token.TheVariants as token
use Rattle.task_types.specs.Sets.{numbers}
use Rattle.task_types.proofs.touches.tokens.push_fact_tokens.Given as goal

abbrev pub invariant-loop-fact : goal.invariant-loop-fact
invariant-loop-fact l = l.out ≡ l.fn.out ++ map token.Fact (numbers l.fact)
