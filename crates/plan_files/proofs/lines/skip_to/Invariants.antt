use Rattle.std.proofs.Common.{◌≡◌, length}
use Rattle.plan_files.specs.LineScan.{skip_to}
use Rattle.plan_files.proofs.lines.skip_to.Given as goal

-- the same is left of the rest
abbrev pub invariant-loop-rest : goal.invariant-loop-rest
invariant-loop-rest l = skip_to l.byte l.rest ≡ skip_to l.byte l.fn.text

abbrev pub decreases-loop-rest : goal.decreases-loop-rest
decreases-loop-rest l = length l.rest
