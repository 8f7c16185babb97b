use Rattle.std.proofs.Common.{◌≡◌, length}
use Rattle.plan_files.specs.Tokens.{tokens}
use Rattle.plan_files.specs.WordScan.{behind_runs}
use Rattle.plan_files.proofs.words.after_runs.Given as goal

abbrev pub invariant-loop-behind : goal.invariant-loop-behind
invariant-loop-behind l = behind_runs (tokens l.rest) ≡ behind_runs (tokens l.fn.line)

abbrev pub decreases-loop-behind : goal.decreases-loop-behind
decreases-loop-behind l = length (tokens l.rest)
