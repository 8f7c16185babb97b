use Rattle.std.proofs.Common.{sym, ◌∙◌}
use Rattle.task_types.proofs.LastEntries.{last_is}
use Rattle.task_types.proofs.touches.touch_rows.ends_with.Goals as goal

pub returns-in-Some : goal.returns-in-Some
returns-in-Some c = c.is_entry.ensures ∙ sym (last_is c.args.entry.now.0 c.args.entry.now.1 c.args.row.now c.in-Some.last.now c.in-Some.ensures.value)
