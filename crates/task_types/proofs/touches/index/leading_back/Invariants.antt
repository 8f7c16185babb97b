use Rattle.std.proofs.Common.{◌≡◌, take, map}
use Rattle.task_types.specs.Related.{related, LeadsBack}
use Rattle.task_types.proofs.touches.index.leading_back.Given as goal

abbrev pub invariant-loop-snap : goal.invariant-loop-snap
invariant-loop-snap l = (l.place ≡ l.snap-index) × LeadsBack l.rows.items l.count (map (related l.parts l.relation) (take l.snap-index l.snap-items))
