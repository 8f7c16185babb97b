-- The conditions of a task are no longer than its lists may be.
use Rattle.std.proofs.Common.{◌≡◌, subst, ℕ, ◌≤◌, true, map, length}
use Rattle.std.specs.List.{list_all}
use Rattle.std.proofs.lemmas.List.{length-map}
use Rattle.basics.proofs.Bools.{and_left, and_right}
use Rattle.basics.proofs.Naturals.{le_out}
use Rattle.task_types.specs.declared.conditions.Condition.{Condition}
use Rattle.task_types.specs.declared.parts.TaskParts.{TaskParts}
use Rattle.task_types.specs.Plan.{snap_of}
use Rattle.task_types.specs.WellMade.{IsWellMade, is_short, list_limit, condition_fits, snap_fits}
use Rattle.task_types.proofs.Assigning.{snap_of_fits}

pub condition_short : (task : TaskParts) (c : Condition) → condition_fits task c ≡ true → (length c.literals ≤ 1048576) × (length c.comparisons ≤ 1048576)
condition_short task c h = (
  subst (λ n. n ≤ 1048576) (length-map c.literals (λ l. l.fact)) (le_out (length (map (λ l. l.fact) c.literals)) list_limit (and_left _ _ (and_left _ _ h))),
  le_out (length c.comparisons) list_limit (and_left _ _ (and_right _ _ h)),
)

pub snap_short : (task : TaskParts) → IsWellMade task → (s : ℕ) → (length (snap_of task s).condition.literals ≤ 1048576) × (length (snap_of task s).condition.comparisons ≤ 1048576)
snap_short task w s = condition_short task (snap_of task s).condition (and_left _ _ (and_left _ _ (and_left _ _ (and_left _ _ (and_left _ _ (and_left _ _ (snap_of_fits task (and_right (is_short task.snaps) (list_all (snap_fits task) task.snaps) w.snaps) s)))))))
