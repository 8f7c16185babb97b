use Rattle.std.proofs.Common.{◌≡◌, take}
use Rattle.ground_world.specs.Shown.{world_of}
use Rattle.grounder.specs.Answer.{least}
use Rattle.grounder.specs.Instances.{kept, wide_in_actions}
use Rattle.grounder.specs.ShownInstances.{all_of}
use Rattle.grounder.proofs.judging.kept_instances.Given as goal

abbrev pub invariant-loop-action : goal.invariant-loop-action
invariant-loop-action l = record {
  instances : all_of l.found.instances ≡ kept (world_of l.tables) (take l.action-index l.actions);
  wide : l.found.wide ≡ least (wide_in_actions (world_of l.tables) (take l.action-index l.actions));
}
