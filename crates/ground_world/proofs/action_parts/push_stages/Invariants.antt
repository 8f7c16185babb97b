use Rattle.std.proofs.Common.{◌≡◌, ◌++◌, replicate}
use Rattle.ground_world.proofs.action_parts.push_stages.Given as goal

abbrev pub invariant-loop-part : goal.invariant-loop-part
invariant-loop-part l = l.stages ≡ l.fn.stages ++ replicate l._part l.stage
