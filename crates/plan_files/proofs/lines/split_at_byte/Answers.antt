use Rattle.plan_files.proofs.Scans.{before_splits, rest_within, front_taken}
use Rattle.plan_files.proofs.lines.split_at_byte.Goals as goal

pub slice_bounds-result-count : goal.slice_bounds-result-count
slice_bounds-result-count c = rw c.skip_to-rest.ensures (rest_within _ _ _ (before_splits c.args.byte c.args.text.now))

pub returns-clause-front : goal.returns-clause-front
returns-clause-front c = rw c.skip_to-rest.ensures (front_taken _ _ _ (before_splits c.args.byte c.args.text.now))
