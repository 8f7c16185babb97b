use Rattle.std.proofs.Common.{◌∙◌, ap}
use Rattle.std.specs.Option.{option_map}
use Rattle.plan_files.proofs.Scanning.{next_run-is, map_map, seen, bytes_of}
use Rattle.plan_files.proofs.words.first_run.Goals as goal

pub returns : goal.returns
returns c = map_map bytes_of seen c.next_run.result ∙ ap (option_map seen) c.next_run.ensures ∙ next_run-is c.args.line.now
