use Rattle.std.proofs.Common.{length}
use Rattle.pddl_terms.proofs.Digits.{Reads}
use Rattle.pddl_terms.proofs.numbers.number.Given as goal

abbrev pub invariant-loop-byte : goal.invariant-loop-byte
invariant-loop-byte l = Reads l.bytes l.number l.left

abbrev pub decreases-loop-byte : goal.decreases-loop-byte
decreases-loop-byte l = length l.left
