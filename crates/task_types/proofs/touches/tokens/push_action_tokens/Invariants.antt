use Rattle.std.proofs.Common.{◌≡◌, ◌++◌, take, map}
use Rattle.std.specs.Prelude.{is_some}
use Rattle.std.specs.List.{filter, enumerate_from}
use Rattle.task_types.specs.declared.tokens.Token.TheVariants as token
use Rattle.task_types.proofs.touches.tokens.push_action_tokens.Given as goal

abbrev pub invariant-loop-place : goal.invariant-loop-place
invariant-loop-place l = l.out ≡ l.fn.out ++ map (λ a. token.Action a.0) (filter (λ a. is_some a.1.end) (enumerate_from 0 (take l.place l.actions)))
