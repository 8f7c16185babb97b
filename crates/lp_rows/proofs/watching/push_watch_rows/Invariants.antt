use Rattle.std.proofs.Common.{take}
use Rattle.std.specs.List.{flat_map}
use Rattle.lp_rows.specs.Comparing.{running_watch}
use Rattle.lp_rows.proofs.Pushing.{ArePushed}
use Rattle.lp_rows.proofs.watching.push_watch_rows.Given as goal

abbrev pub invariant-loop-action : goal.invariant-loop-action
invariant-loop-action l = ArePushed l.fn.out (flat_map (running_watch l.task.parts l.ledger.steps l.step) (take l.action-index l.runs)) l.out
