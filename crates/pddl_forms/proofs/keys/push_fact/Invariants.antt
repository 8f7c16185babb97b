use Rattle.std.proofs.Common.{◌≡◌, ◌++◌, take, map}
use Rattle.std.specs.List.{flat_map}
use Rattle.pddl_forms.specs.TimedLiterals.{term_bytes}
use Rattle.pddl_forms.specs.Keys.{encoded}
use Rattle.pddl_forms.proofs.keys.push_fact.Given as goal

abbrev pub invariant-loop-term : goal.invariant-loop-term
invariant-loop-term l = l.out.items ≡ (l.fn.out.items ++ encoded l.fact.name.bytes) ++ flat_map encoded (map term_bytes (take l.term-index l.term-items))
