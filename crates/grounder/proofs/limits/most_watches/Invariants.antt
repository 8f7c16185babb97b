use Rattle.std.proofs.Common.{◌≡◌, map, take, length}
use Rattle.grounder.specs.Answer.{greatest}
use Rattle.grounder.proofs.limits.most_watches.Given as goal

abbrev pub invariant-loop-action : goal.invariant-loop-action
invariant-loop-action l = l.most ≡ greatest (map (λ a. length a.over_all.comparisons) (take l.action-index l.actions))
