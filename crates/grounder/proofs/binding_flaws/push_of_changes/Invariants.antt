use Rattle.std.proofs.Common.{◌≡◌, ◌++◌, take}
use Rattle.ground_world.specs.Shown.{env_of, world_of}
use Rattle.ground_world.specs.ShownChanges.{changes_of}
use Rattle.grounder.specs.Bindings.{change_flaws}
use Rattle.grounder.proofs.binding_flaws.push_of_changes.Given as goal

abbrev pub invariant-loop-staged : goal.invariant-loop-staged
invariant-loop-staged l = l.flaws ≡ l.fn.flaws ++ change_flaws (world_of l.tables) (env_of l.env) (changes_of (take l.staged-index l.changes))
