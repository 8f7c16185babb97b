use denote.Param.Send.{sendable}
use Rattle.task_types.proofs.Crossing.{parts-send, parts-sync, task-send, task-sync}
use Rattle.task_types.proofs.all_cross_threads.Goals as goal

pub crosses_threads-requires-9-send-T : goal.crosses_threads-requires-9-send-T
crosses_threads-requires-9-send-T c κs = search (parts-send, sendable) depth 60 fits 20000

pub crosses_threads-requires-9-sync-T : goal.crosses_threads-requires-9-sync-T
crosses_threads-requires-9-sync-T c κs = search (parts-sync, sendable) depth 60 fits 20000

pub crosses_threads-requires-10-send-T : goal.crosses_threads-requires-10-send-T
crosses_threads-requires-10-send-T c κs = search (task-send, sendable) depth 60 fits 20000

pub crosses_threads-requires-10-sync-T : goal.crosses_threads-requires-10-sync-T
crosses_threads-requires-10-sync-T c κs = search (task-sync, sendable) depth 60 fits 20000
