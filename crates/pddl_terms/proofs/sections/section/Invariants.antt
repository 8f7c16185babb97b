use Rattle.std.proofs.Common.{◌≡◌, ◌-◌, length}
use Rattle.pddl_terms.specs.Content.{content_at}
use Rattle.pddl_terms.specs.Sections.{section}
use Rattle.pddl_terms.proofs.sections.section.Given as goal

abbrev pub invariant-loop-at : goal.invariant-loop-at
invariant-loop-at l = section l.key (content_at l.forms l.at) ≡ section l.key (content_at l.forms l.from)

abbrev pub decreases-loop-at : goal.decreases-loop-at
decreases-loop-at l = length l.forms.tokens - l.at
