use Rattle.plan_files.proofs.Scanning.{none_left-is}
use Rattle.plan_files.proofs.words.is_at_end.Goals as goal

pub returns : goal.returns
returns c = none_left-is c.args.line.now c.are_blanks.result c.are_blanks.ensures
