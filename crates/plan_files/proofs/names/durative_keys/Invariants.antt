use Rattle.std.proofs.Common.{◌≡◌, map, take}
use Rattle.plan_files.specs.Entries.{Entry, entry_of, schema_entry, durative_of}
use Rattle.plan_files.proofs.names.durative_keys.Given as goal

abbrev pub invariant-loop-schema : goal.invariant-loop-schema
invariant-loop-schema l = map {B = Entry} entry_of l.keys.items ≡ map {B = Entry} schema_entry (durative_of (take l.schema-index l.schemas))
