use Rattle.std.proofs.Common.{◌≡◌, take}
use Rattle.ground_world.specs.Shown.{columns_of}
use Rattle.grounder.proofs.plain_parts.params.Given as goal

abbrev pub invariant-loop-variable : goal.invariant-loop-variable
invariant-loop-variable l = l.out ≡ columns_of (take l.variable-index l.variable-items)
