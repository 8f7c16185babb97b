use Rattle.std.proofs.Common.{◌≡◌, ◌++◌, take, map}
use Rattle.std.specs.List.{filter}
use Rattle.task_types.specs.declared.tokens.Token.TheVariants as token
use Rattle.task_types.specs.Sets.{are_several}
use Rattle.task_types.specs.Touch.{soft_facts}
use Rattle.task_types.proofs.touches.tokens.push_soft_tokens.Given as goal

abbrev pub invariant-loop-soft : goal.invariant-loop-soft
invariant-loop-soft l = l.out ≡ l.fn.out ++ map token.Formulas (filter are_several (map soft_facts (take l.soft-index l.softs)))
