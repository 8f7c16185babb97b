use Rattle.std.proofs.Common.{◌≡◌, length}
use Rattle.plan_files.specs.LineScan.{skip_blanks}
use Rattle.plan_files.proofs.scan.skip_blanks.Given as goal

-- the same is left of the rest
abbrev pub invariant-loop-rest : goal.invariant-loop-rest
invariant-loop-rest l = skip_blanks l.rest ≡ skip_blanks l.fn.line

abbrev pub decreases-loop-rest : goal.decreases-loop-rest
decreases-loop-rest l = length l.rest
