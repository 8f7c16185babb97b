use Rattle.std.proofs.Common.{drop}
use Rattle.basics.proofs.Duties.{ComesDownTo}
use Rattle.plan_validator.specs.Kinds.{time_duties}
use Rattle.plan_validator.proofs.times.first_late.Given as goal

abbrev pub invariant-loop-line : goal.invariant-loop-line
invariant-loop-line l = ComesDownTo (time_duties l.rules l.lines) (time_duties l.rules (drop l.line-index l.lines))
