use Rattle.std.proofs.Common.{◌∙◌, sym, ap}
use Rattle.std.proofs.lemmas.List.{nil_from_length}
use Rattle.pddl_forms.specs.Offences.{least_with}
use Rattle.pddl_forms.specs.TimedLiterals.{timed_literals}
use Rattle.pddl_forms.specs.Keys.{clashes_seen}
use Rattle.pddl_forms.proofs.timed_literals.least_of_clashes.Goals as goal

pub returns : goal.returns
unfolding least_with clashes_seen
returns c = ap (λ es. least_with c.loop-entry.found (clashes_seen c.loop-entry.seen (timed_literals es))) (sym (nil_from_length c.loop-entry.left.now c.in_default.ensures.cases)) ∙ c.loop-entry.invariant
