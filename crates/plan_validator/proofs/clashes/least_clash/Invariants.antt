use Rattle.std.proofs.Common.{◌≡◌, length}
use Rattle.std.specs.Prelude.{None}
use Rattle.std.specs.List.{AllByRecursion}
use Rattle.timed_meaning.specs.Told.{AreSteps}
use Rattle.timed_meaning.specs.Owned.{steps_of}
use Rattle.plan_validator.specs.Firsts.{all_noted}
use Rattle.plan_validator.specs.Clashes.{SumsFit, clash_notes}
use Rattle.plan_validator.proofs.clashes.least_clash.Given as goal

abbrev pub invariant-loop-first : goal.invariant-loop-first
invariant-loop-first l = record {
  noted : all_noted l.least.place (clash_notes l.parts l.rules l.lines l.rest) ≡ all_noted None (clash_notes l.parts l.rules l.lines l.steps);
  sums : AllByRecursion (SumsFit l.rules) l.rest;
  known : AreSteps l.parts (steps_of l.rest);
}

abbrev pub decreases-loop-first : goal.decreases-loop-first
decreases-loop-first l = length l.rest
