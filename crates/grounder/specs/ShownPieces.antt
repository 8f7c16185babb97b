-- Private: the flat lists of a binding that the code holds.
use Rattle.ground_world.specs.declared.staged_parts.StagedParts.{StagedParts}
use Rattle.ground_world.specs.ShownBounds.{bounds_of}
use Rattle.ground_world.specs.ShownChanges.{changes_of}
use Rattle.ground_world.specs.ShownParts.{staged_parts_of}
use Rattle.grounder.specs.Bindings.{Pieces}
use Rattle.grounder.specs.declared.outlines.Outline.{Outline}

abbrev pub pieces_of : StagedParts → Outline → Pieces
pieces_of parts outline = record {
  conditions = staged_parts_of parts;
  bounds = bounds_of outline.bounds;
  changes = changes_of outline.changes;
}
