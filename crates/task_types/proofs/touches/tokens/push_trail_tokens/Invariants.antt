use Rattle.std.proofs.Common.{◌≡◌, ◌++◌, take, map}
use Rattle.std.specs.List.{filter}
use Rattle.task_types.specs.declared.tokens.Token.TheVariants as token
use Rattle.task_types.specs.Sets.{are_several}
use Rattle.task_types.specs.Touch.{trail_facts}
use Rattle.task_types.proofs.touches.tokens.push_trail_tokens.Given as goal

abbrev pub invariant-loop-trail : goal.invariant-loop-trail
invariant-loop-trail l = l.out ≡ l.fn.out ++ map token.Formulas (filter are_several (map trail_facts (take l.trail-index l.trails)))
