use Rattle.std.proofs.Common.{◌≡◌, map, take}
use Rattle.pddl_names.specs.Declarations.{with_new}
use Rattle.ground_world.proofs.metric_unknowns.add_preferences.Given as goal

abbrev pub invariant-loop-leaf : goal.invariant-loop-leaf
invariant-loop-leaf l = l.names ≡ with_new l.fn.names (map (λ l. l.name.now) (take l.leaf-index l.leaves))
