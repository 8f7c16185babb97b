-- Believed: what the code's conditions of an action stand for: parts with their stages.
use Rattle.std.specs.Prelude.{List, [], ◌∷◌}
use Rattle.ground_world.specs.declared.changes.Stage.{Stage}
use Rattle.ground_world.specs.declared.parts.CondPart.{CondPart}
use Rattle.ground_world.specs.declared.staged_parts.StagedParts.{StagedParts}
use Rattle.ground_world.specs.Changes.{Staged}
use Rattle.ground_world.specs.Conditions.{Part}
use Rattle.ground_world.specs.Shown.{part_of}

-- each part with the stage at its place
abbrev pub with_stages : List CondPart → List Stage → List (Staged Part)
with_stages [] stages = []
with_stages (p ∷ ps) [] = []
with_stages (p ∷ ps) (s ∷ ss) = record { stage = s; part = part_of p } ∷ with_stages ps ss

abbrev pub staged_parts_of : StagedParts → List (Staged Part)
staged_parts_of a = with_stages a.parts a.stages
