use Rattle.std.proofs.Common.{◌≡◌, ◌+◌, map, take}
use Rattle.std.specs.List.{enumerate_from}
use Rattle.grounder.proofs.moments.timed_numbers.Given as goal

abbrev pub invariant-loop-place : goal.invariant-loop-place
invariant-loop-place l = l.out ≡ map (λ x. (x.1, l.first + x.0)) (enumerate_from 0 (take l.place l.moments))
