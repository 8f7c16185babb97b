use Rattle.std.proofs.Common.{◌≡◌, ◌-◌, ◌++◌, length}
use Rattle.pddl_terms.specs.Content.{content_at}
use Rattle.pddl_domain.specs.Domains.{declarations}
use Rattle.pddl_domain.proofs.declarations.declarations.Given as goal

abbrev pub invariant-loop-out : goal.invariant-loop-out
invariant-loop-out l = l.out ++ declarations (content_at l.forms l.at) ≡ declarations (content_at l.forms l.from)

abbrev pub decreases-loop-out : goal.decreases-loop-out
decreases-loop-out l = length l.forms.tokens - l.at
