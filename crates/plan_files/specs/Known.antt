-- Private: the names of a task as they are looked up.
use Rattle.std.specs.Prelude.{map}
use Rattle.plan_files.specs.declared.names.Names.{Names}
use Rattle.plan_files.specs.Entries.{Entry, object_entry, action_entry, schema_entry, durative_of}
use Rattle.plan_files.specs.Places.{HasPlaces}

-- These are the names of their task.
pub record AreNames (n : Names) : Type 0 where
  pub objects : HasPlaces n.objects (map {B = Entry} object_entry n.task.now.parts.objects)
  pub actions : HasPlaces n.actions (map {B = Entry} action_entry n.task.now.parts.actions)
  pub durative : HasPlaces n.durative (map {B = Entry} schema_entry (durative_of n.task.now.parts.schemas))
