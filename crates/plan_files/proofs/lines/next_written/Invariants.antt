use Rattle.std.proofs.Common.{◌≡◌, ◌+◌, ◌≤◌, length}
use Rattle.plan_files.specs.Lines.{lines_of, written_from}
use Rattle.plan_files.proofs.lines.next_written.Given as goal

-- the lines so far are blank
abbrev pub invariant-loop-rest : goal.invariant-loop-rest
invariant-loop-rest l = record {
  lines : written_from l.fn.number (lines_of l.fn.text) ≡ written_from l.number (lines_of l.rest);
  within : l.number + length l.rest ≤ l.fn.number + length l.fn.text;
}

abbrev pub decreases-loop-rest : goal.decreases-loop-rest
decreases-loop-rest l = length l.rest
