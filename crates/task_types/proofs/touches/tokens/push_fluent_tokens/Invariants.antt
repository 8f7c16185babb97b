use Rattle.std.proofs.Common.{◌≡◌, ◌++◌, map, false}
use Rattle.std.specs.Prelude.{slice_index_or}
use Rattle.std.specs.List.{filter}
use Rattle.task_types.specs.declared.tokens.Token.TheVariants as token
use Rattle.task_types.specs.Sets.{numbers}
use Rattle.task_types.proofs.touches.tokens.push_fluent_tokens.Given as goal

abbrev pub invariant-loop-fluent : goal.invariant-loop-fluent
invariant-loop-fluent l = l.out ≡ l.fn.out ++ map token.Fluent (filter (λ f. slice_index_or l.flags f false) (numbers l.fluent))
