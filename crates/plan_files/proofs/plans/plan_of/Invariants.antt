use Rattle.std.proofs.Common.{◌+◌, ◌≤◌, length}
use Rattle.timed_meaning.specs.TimedPlans.{IsBuiltFor}
use Rattle.plan_files.specs.Lines.{lines_of, written_from, written_lines}
use Rattle.plan_files.proofs.Progress.{Reading}
use Rattle.plan_files.proofs.plans.plan_of.Given as goal

-- the lines before the rest are those of the plan
abbrev pub invariant-loop-written : goal.invariant-loop-written
invariant-loop-written l = record {
  reading : Reading l.names.task.now.parts (written_lines l.text) l.plan (written_from l.number (lines_of l.rest));
  built : IsBuiltFor l.names.task.now.parts l.plan;
  within : l.number + length l.rest ≤ 1 + length l.text;
}

abbrev pub decreases-loop-written : goal.decreases-loop-written
decreases-loop-written l = length l.rest
