use Rattle.std.proofs.Common.{◌≡◌, true, false, take}
use Rattle.std.specs.List.{list_all, list_any}
use Rattle.task_types.specs.State.{tree_holds}
use Rattle.trajectory.proofs.Heights.{height}
use Rattle.trajectory.specs.Facts.{facts_told}
use Rattle.trajectory.proofs.formulas.+tree_holds.Given as goal

abbrev pub decreases-tree_holds : goal.decreases-tree_holds
decreases-tree_holds l = height l.tree.now

abbrev pub invariant-loop-part : goal.invariant-loop-part
invariant-loop-part l = list_all (λ t. tree_holds t (facts_told l.facts)) (take l.part-index l.part-items) ≡ true

abbrev pub invariant-loop-choice : goal.invariant-loop-choice
invariant-loop-choice l = list_any (λ t. tree_holds t (facts_told l.facts)) (take l.choice-index l.choice-items) ≡ false
