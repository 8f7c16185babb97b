use Rattle.std.proofs.Common.{◌≡◌, nat_lt, take}
use Rattle.std.specs.List.{filter}
use Rattle.rational.specs.Rational.{zeroℚ}
use Rattle.grounder.proofs.fluent_forms.fluent_terms.Given as goal

abbrev pub invariant-loop-term : goal.invariant-loop-term
invariant-loop-term l = l.kept ≡ record { constant = zeroℚ; terms = filter (λ t. nat_lt t.0 l.own) (take l.term-index l.term-items) }
