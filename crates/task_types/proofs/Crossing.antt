-- A task crosses threads, since each of its fields does.
use denote.Struct.Declared.{shape}
use denote.Param.Send.{IsSend, IsSync, sendable, struct_send, struct_sync, recorded_send, recorded_sync}
use Rattle.std.proofs.Crossing.{crosses}
use Rattle.task_types.proofs.formulas.FactTree.TheLaws.TheKnot as knot
use Rattle.task_types.specs.contracts.parts.TaskParts as TaskParts
use Rattle.task_types.specs.contracts.task.Task as Task

parts-fields-send : IsSend (TaskParts.the_field).row
parts-fields-send = struct_send (shape TaskParts.the_type) ((search (crosses, knot.crosses, sendable) depth 80 fits 20000), ((search (crosses, knot.crosses, sendable) depth 80 fits 20000), ((search (crosses, knot.crosses, sendable) depth 80 fits 20000), ((search (crosses, knot.crosses, sendable) depth 80 fits 20000), ((search (crosses, knot.crosses, sendable) depth 80 fits 20000), ((search (crosses, knot.crosses, sendable) depth 80 fits 20000), ((search (crosses, knot.crosses, sendable) depth 80 fits 20000), ((search (crosses, knot.crosses, sendable) depth 80 fits 20000), ((search (crosses, knot.crosses, sendable) depth 80 fits 20000), ((search (crosses, knot.crosses, sendable) depth 80 fits 20000), ((search (crosses, knot.crosses, sendable) depth 80 fits 20000), tt)))))))))))

pub parts-send : IsSend TaskParts.the_row
parts-send = recorded_send (TaskParts.the_field).row _ _ (TaskParts.the_type).to_one parts-fields-send

task-fields-send : IsSend (Task.the_field).row
task-fields-send = struct_send (shape Task.the_type) (parts-fields-send, (search (crosses, knot.crosses, sendable) depth 80 fits 20000, tt))

pub task-send : IsSend Task.the_row
task-send = recorded_send (Task.the_field).row _ _ (Task.the_type).to_one task-fields-send

parts-fields-sync : IsSync (TaskParts.the_field).row
parts-fields-sync = struct_sync (shape TaskParts.the_type) ((search (crosses, knot.crosses, sendable) depth 80 fits 20000), ((search (crosses, knot.crosses, sendable) depth 80 fits 20000), ((search (crosses, knot.crosses, sendable) depth 80 fits 20000), ((search (crosses, knot.crosses, sendable) depth 80 fits 20000), ((search (crosses, knot.crosses, sendable) depth 80 fits 20000), ((search (crosses, knot.crosses, sendable) depth 80 fits 20000), ((search (crosses, knot.crosses, sendable) depth 80 fits 20000), ((search (crosses, knot.crosses, sendable) depth 80 fits 20000), ((search (crosses, knot.crosses, sendable) depth 80 fits 20000), ((search (crosses, knot.crosses, sendable) depth 80 fits 20000), ((search (crosses, knot.crosses, sendable) depth 80 fits 20000), tt)))))))))))

pub parts-sync : IsSync TaskParts.the_row
parts-sync = recorded_sync (TaskParts.the_field).row _ _ (TaskParts.the_type).to_one parts-fields-sync

task-fields-sync : IsSync (Task.the_field).row
task-fields-sync = struct_sync (shape Task.the_type) (parts-fields-sync, (search (crosses, knot.crosses, sendable) depth 80 fits 20000, tt))

pub task-sync : IsSync Task.the_row
task-sync = recorded_sync (Task.the_field).row _ _ (Task.the_type).to_one task-fields-sync
