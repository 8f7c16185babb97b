use Rattle.std.proofs.Common.{◌∷◌, [], take}
use Rattle.lp_rows.specs.Comparing.{own_of}
use Rattle.lp_rows.proofs.Pushing.{ArePushed, numbered}
use Rattle.lp_rows.proofs.own.push_numbered.Given as goal

abbrev pub invariant-loop-place : goal.invariant-loop-place
invariant-loop-place l = ArePushed l.fn.out (numbered (λ e. own_of l.task.parts l.ledger.steps l.step e ∷ []) l.first (take l.place l.forms)) l.out
