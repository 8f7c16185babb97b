use Rattle.std.proofs.Common.{◌≡◌, length}
use Rattle.plan_files.specs.LineScan.{skip_run}
use Rattle.plan_files.proofs.scan.skip_run.Given as goal

-- the same is left of the rest
abbrev pub invariant-loop-rest : goal.invariant-loop-rest
invariant-loop-rest l = skip_run l.rest ≡ skip_run l.fn.line

abbrev pub decreases-loop-rest : goal.decreases-loop-rest
decreases-loop-rest l = length l.rest
