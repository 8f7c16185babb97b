use Rattle.plan_files.specs.WordsSeen.{words_seen}
use Rattle.plan_files.proofs.Instances.{named-there, named-durative}
use Rattle.plan_files.proofs.LineDuties.{parts-read}
use Rattle.plan_files.proofs.plan_lines.parts_of.Goals as goal

pub parts_with-requires : goal.parts_with-requires
parts_with-requires c =
    let found = rw c.in-Ok-Action.field-0-is at c.in-Ok-Action.ensures in
    named-there c.args.names.now.task.now.parts c.args.names.now.task.now.well_made c.args.text.now.name.now (words_seen c.args.text.now).args c.in-Ok-Action.action found.1

pub returns-in-Ok-Action : goal.returns-in-Ok-Action
returns-in-Ok-Action c =
    let found = rw c.in-Ok-Action.field-0-is at c.in-Ok-Action.ensures in
    let task = c.args.names.now.task.now.parts in
    let w = words_seen c.args.text.now in
    parts-read task c.args.number w c.args.numbers c.in-Ok-Action.action c.parts_with.result c.parts_with.ensures c.requires.bracket c.requires.numbers found.0 found.1
    (named-there task c.args.names.now.task.now.well_made w.name w.args c.in-Ok-Action.action found.1)
    (named-durative task c.args.names.now.task.now.well_made w.name w.args c.in-Ok-Action.action found.1)
