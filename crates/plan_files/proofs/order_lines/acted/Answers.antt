use Rattle.std.proofs.Common.{◌∙◌, ap}
use Rattle.std.specs.Prelude.{option_map}
use Rattle.plan_files.specs.Tokens.{tokens}
use Rattle.plan_files.specs.WordsSeen.{runs_in_front}
use Rattle.plan_files.specs.OrderFiles.{Step}
use Rattle.plan_files.proofs.Instances.{named-there}
use Rattle.plan_files.proofs.OrderDuties.{acted-read}
use Rattle.plan_files.proofs.order_lines.acted.Goals as goal

pub snap_of-requires : goal.snap_of-requires
snap_of-requires c =
    let found = rw c.in-Ok-Action.field-0-is at c.in-Ok-Action.ensures in
    named-there c.args.names.now.task.now.parts c.args.names.now.task.now.well_made c.args.name.now (runs_in_front (tokens c.args.args.now)) c.in-Ok-Action.action found.1

pub returns-in-Ok-Action : goal.returns-in-Ok-Action
returns-in-Ok-Action c =
    let found = rw c.in-Ok-Action.field-0-is at c.in-Ok-Action.ensures in
    let task = c.args.names.now.task.now.parts in
    let args = runs_in_front (tokens c.args.args.now) in
    acted-read task c.args.names.now.task.now.well_made c.args.number c.args.what c.args.name.now args c.in-Ok-Action.action c.step.result found.0 found.1
    (named-there task c.args.names.now.task.now.well_made c.args.name.now args c.in-Ok-Action.action found.1) (c.step.ensures ∙ ap (option_map Step) c.snap_of.ensures)
