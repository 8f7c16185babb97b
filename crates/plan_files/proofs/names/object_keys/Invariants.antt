use Rattle.std.proofs.Common.{◌≡◌, map, take}
use Rattle.plan_files.specs.Entries.{Entry, entry_of, object_entry}
use Rattle.plan_files.proofs.names.object_keys.Given as goal

abbrev pub invariant-loop-object : goal.invariant-loop-object
invariant-loop-object l = map {B = Entry} entry_of l.keys.items ≡ map {B = Entry} object_entry (take l.object-index l.objects)
