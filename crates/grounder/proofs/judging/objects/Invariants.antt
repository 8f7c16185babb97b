use Rattle.std.proofs.Common.{◌≡◌, map, take}
use Rattle.grounder.proofs.judging.objects.Given as goal

abbrev pub invariant-loop-entry : goal.invariant-loop-entry
invariant-loop-entry l = l.args ≡ map (λ b. b.object) (take l.entry-index l.env)
