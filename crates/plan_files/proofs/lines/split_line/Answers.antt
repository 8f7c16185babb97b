use Rattle.std.proofs.Common.{◌≤◌, length, arith}
use Rattle.std.proofs.lemmas.List.{take_rest, length-drop}
use Rattle.plan_files.proofs.Scans.{rest_within, before_splits}
use Rattle.plan_files.proofs.lines.split_line.Goals as goal

pub returns-in_default-len1-up-clause-shorter : goal.returns-in_default-len1-up-clause-shorter
returns-in_default-len1-up-clause-shorter c = λ some.
    let rest = c.split_at_byte.result.1.now in
    let within : length rest ≤ length c.args.text.now = rw c.split_at_byte.ensures.rest (rest_within _ _ _ (before_splits 10 c.args.text.now)) in
    rw (take_rest rest 1) (omega (arith, length-drop 1 rest, within, c.in_default-len1-up.len_at_least))
