use Rattle.std.proofs.Common.{◌≡◌, ◌≤◌, ◌*◌, length, take}
use Rattle.grounder.specs.ShownGrounding.{ground_of}
use Rattle.grounder.specs.ShownInstances.{all_of}
use Rattle.grounder.specs.Task.{numbered_actions, action_snaps}
use Rattle.grounder.proofs.actions.ground_actions.Given as goal

abbrev pub invariant-loop-instance : goal.invariant-loop-instance
invariant-loop-instance l = record {
  actions : l.out.actions ≡ numbered_actions (ground_of l.grounding) 0 (all_of (take l.instance-index l.instances));
  snaps : l.out.snaps ≡ action_snaps (ground_of l.grounding) (all_of (take l.instance-index l.instances));
  few : length l.out.snaps ≤ 2 * l.instance-index;
}
