use Rattle.std.proofs.Common.{◌≡◌, length}
use Rattle.basics.specs.Texts.{behind_point}
use Rattle.pddl_terms.proofs.numbers.behind_point.Given as goal

abbrev pub invariant-loop-first : goal.invariant-loop-first
invariant-loop-first l = behind_point l.bytes ≡ behind_point l.left

abbrev pub decreases-loop-first : goal.decreases-loop-first
decreases-loop-first l = length l.left
