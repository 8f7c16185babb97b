use Rattle.std.proofs.Common.{◌≡◌, length, ◌++◌}
use Rattle.pddl_forms.specs.Keys.{encoded}
use Rattle.pddl_forms.proofs.keys.push_word.Given as goal

abbrev pub decreases-loop-byte : goal.decreases-loop-byte
decreases-loop-byte l = length l.left

abbrev pub invariant-loop-byte : goal.invariant-loop-byte
invariant-loop-byte l = l.out.items ++ encoded l.left ≡ l.fn.out.items ++ encoded l.fn.word
