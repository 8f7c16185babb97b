use Rattle.std.proofs.Common.{◌≡◌, ◌-◌, length}
use Rattle.pddl_terms.specs.Content.{content_at}
use Rattle.pddl_terms.specs.Sections.{behind_word}
use Rattle.pddl_terms.proofs.sections.behind_word.Given as goal

abbrev pub invariant-loop-token : goal.invariant-loop-token
invariant-loop-token l = behind_word l.key (content_at l.forms l.at) ≡ behind_word l.key (content_at l.forms l.from)

abbrev pub decreases-loop-token : goal.decreases-loop-token
decreases-loop-token l = length l.forms.tokens - l.at
