use Rattle.plan_files.proofs.Scans.{run_splits, rest_within, front_taken}
use Rattle.plan_files.proofs.scan.split_run.Goals as goal

pub slice_bounds-result-count : goal.slice_bounds-result-count
slice_bounds-result-count c = rw c.skip_run-rest.ensures (rest_within _ _ _ (run_splits c.args.line.now))

pub returns-clause-run : goal.returns-clause-run
returns-clause-run c = rw c.skip_run-rest.ensures (front_taken _ _ _ (run_splits c.args.line.now))
