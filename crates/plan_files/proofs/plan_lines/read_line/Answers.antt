use Rattle.plan_files.specs.WordsSeen.{words_seen}
use Rattle.plan_files.proofs.LineDuties.{line-read, refused_number}
use Rattle.plan_files.proofs.plan_lines.read_line.Goals as goal

pub returns-in-Some : goal.returns-in-Some
returns-in-Some c =
    let words = rw c.in-Ok-Some.field-0-is at c.in-Ok-Some.ensures in
    line-read c.args.names.now.task.now.parts c.args.number c.args.line.now (words_seen c.in-Ok-Some.text) words.0 words.1 c.in-Some.numbers c.in-Some.ensures c.parts_of.result c.parts_of.ensures

pub returns-in-None : goal.returns-in-None
returns-in-None c =
    let words = rw c.in-Ok-Some.field-0-is at c.in-Ok-Some.ensures in
    refused_number c.args.names.now.task.now.parts c.args.number c.args.line.now (words_seen c.in-Ok-Some.text) words.0 words.1 c.in-None.ensures
