use Rattle.std.proofs.Common.{sym}
use Rattle.ordering.proofs.RunningActions.{runs_as_before}
use Rattle.ordering.proofs.running.run_step.Goals as goal

pub returns-in-None-clause-ok : goal.returns-in-None-clause-ok
returns-in-None-clause-ok c = rw c.in-None.is (sym (runs_as_before c.args.step.now.kind c.args.running.now))
