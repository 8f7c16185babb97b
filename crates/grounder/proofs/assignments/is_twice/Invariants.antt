use Rattle.std.proofs.Common.{◌≡◌, ◌||◌, drop}
use Rattle.grounder.specs.Instances.{is_twice}
use Rattle.grounder.proofs.Twice.{met}
use Rattle.grounder.proofs.assignments.is_twice.Given as goal

abbrev pub invariant-loop-fluent : goal.invariant-loop-fluent
invariant-loop-fluent l = is_twice l.fluents ≡ (met l.seen (drop l.fluent-index l.fluents) || is_twice (drop l.fluent-index l.fluents))
