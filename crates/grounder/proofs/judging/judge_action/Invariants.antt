use Rattle.std.proofs.Common.{◌≡◌, ◌++◌, map}
use Rattle.std.specs.List.{filter, flat_map}
use Rattle.ground_world.specs.Bindings.{numbers}
use Rattle.ground_world.specs.Shown.{world_of}
use Rattle.grounder.specs.Answer.{least}
use Rattle.grounder.specs.Instances.{is_kept, wide_in_instance}
use Rattle.grounder.specs.Bindings.{lower, numbered}
use Rattle.grounder.specs.ShownInstances.{all_of}
use Rattle.grounder.proofs.judging.judge_action.Given as goal

abbrev pub invariant-loop-number : goal.invariant-loop-number
invariant-loop-number l = record {
  instances : all_of l.found.instances ≡ all_of l.fn.found.instances ++ filter (is_kept (world_of l.tables)) (map (numbered (world_of l.tables) l.action) (numbers l.number));
  wide : l.found.wide ≡ lower l.fn.found.wide (least (flat_map (wide_in_instance (world_of l.tables)) (map (numbered (world_of l.tables) l.action) (numbers l.number))));
}
