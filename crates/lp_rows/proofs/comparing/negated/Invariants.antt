use Rattle.std.proofs.Common.{◌≡◌, take}
use Rattle.lp_rows.specs.StepRows.{negated}
use Rattle.lp_rows.proofs.comparing.negated.Given as goal

abbrev pub invariant-loop-term : goal.invariant-loop-term
invariant-loop-term l = l.out ≡ negated (take l.term-index l.terms)
