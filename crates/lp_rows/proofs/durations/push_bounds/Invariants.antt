use Rattle.std.proofs.Common.{◌∷◌, [], take}
use Rattle.lp_rows.specs.StepRows.{bound_compared}
use Rattle.lp_rows.proofs.Pushing.{ArePushed, numbered}
use Rattle.lp_rows.proofs.durations.push_bounds.Given as goal

abbrev pub invariant-loop-place : goal.invariant-loop-place
invariant-loop-place l = ArePushed l.fn.out (numbered (λ e. bound_compared l.task.parts l.ledger.steps l.start l.end l.end e ∷ []) 1 (take l.place l.bounds)) l.out
