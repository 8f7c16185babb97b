-- Believed: what the code's parts of effects stand for.
use Rattle.std.specs.Prelude.{List, map}
use Rattle.ground_world.specs.Changes as changes
use Rattle.ground_world.specs.Changes.{Staged}
use Rattle.ground_world.specs.declared.changes.Change.{Change}
use Rattle.ground_world.specs.declared.changes.Change.TheVariants as change
use Rattle.ground_world.specs.declared.changes.StagedChange.{StagedChange}

abbrev pub change_of : Change → changes.Change
change_of (change.Adds a) = changes.Adds a.now
change_of (change.Deletes a) = changes.Deletes a.now
change_of (change.Moves kind f e) = changes.Moves kind f.now e.now
change_of (change.Flows trend f r) = changes.Flows trend f.now r.now

abbrev pub changes_of : List StagedChange → List (Staged changes.Change)
changes_of cs = map (λ c. record { stage = c.stage; part = change_of c.change }) cs
