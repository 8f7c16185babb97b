use Rattle.std.proofs.Common.{length, ◌-◌}
use Rattle.pddl_terms.proofs.Shapes.{Reaches}
use Rattle.pddl_terms.proofs.shape.+first_wrong.Given as goal

abbrev pub decreases-first_wrong : goal.decreases-first_wrong
decreases-first_wrong l = length l.forms.now.tokens - l.from

abbrev pub invariant-loop-place : goal.invariant-loop-place
invariant-loop-place l = Reaches l.forms l.from l.fn.rest l.at l.left

abbrev pub decreases-loop-place : goal.decreases-loop-place
decreases-loop-place l = length l.forms.tokens - l.at
