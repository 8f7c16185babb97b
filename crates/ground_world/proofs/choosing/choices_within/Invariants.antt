use Rattle.std.proofs.Common.{◌≡◌, ◌≤◌, ◌*◌, drop, min}
use Rattle.ground_world.specs.Bindings.{choice_count}
use Rattle.ground_world.specs.Shown.{columns_of}
use Rattle.ground_world.proofs.choosing.choices_within.Given as goal

abbrev pub invariant-loop-variable : goal.invariant-loop-variable
invariant-loop-variable l = (l.count ≤ l.most) × (min l.most (l.count * choice_count (columns_of (drop l.variable-index l.variables))) ≡ min l.most (choice_count (columns_of l.variables)))
