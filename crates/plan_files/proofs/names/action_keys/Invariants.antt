use Rattle.std.proofs.Common.{◌≡◌, map, take}
use Rattle.plan_files.specs.Entries.{Entry, entry_of, action_entry}
use Rattle.plan_files.proofs.names.action_keys.Given as goal

abbrev pub invariant-loop-action : goal.invariant-loop-action
invariant-loop-action l = map {B = Entry} entry_of l.keys.items ≡ map {B = Entry} action_entry (take l.action-index l.actions)
