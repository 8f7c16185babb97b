use Rattle.std.proofs.Common.{◌≡◌, take, length}
use Rattle.std.specs.List.{filter}
use Rattle.grounder.specs.Answer.{is_timed_term}
use Rattle.grounder.proofs.limits.timed_terms.Given as goal

abbrev pub invariant-loop-term : goal.invariant-loop-term
invariant-loop-term l = l.count ≡ length (filter is_timed_term (take l.term-index l.terms))
