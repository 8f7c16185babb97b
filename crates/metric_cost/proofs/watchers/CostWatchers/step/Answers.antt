use Rattle.std.proofs.Common.{List, length, ◌∙◌, ap, sym, subst}
use Rattle.std.specs.List.{AllByRecursion}
use Rattle.task_types.specs.declared.costs.Soft.{Soft}
use Rattle.task_types.specs.Touch.{soft_facts}
use Rattle.trajectory.specs.Facts.{AreCovered}
use Rattle.metric_cost.proofs.Watching.{each-length}
use Rattle.metric_cost.proofs.Counting.{softs-covered}
use Rattle.metric_cost.proofs.watchers.CostWatchers.step.Goals as goal

pub step_all-requires-clause-covered : goal.step_all-requires-clause-covered
step_all-requires-clause-covered c = subst (λ (ss : List Soft). AllByRecursion (λ s. AreCovered (soft_facts s) c.args.facts.now) ss) (sym c.soft.ensures) (softs-covered c.args.task.now.parts c.args.facts.now c.requires.facts c.args.task.now.well_made)

pub step_all-requires-clause-each : goal.step_all-requires-clause-each
step_all-requires-clause-each c = ap length c.as_mut_slice.ensures.value ∙ each-length c.args.task.now.parts.soft c.args.self.now.watches.items c.requires.seen.0 c.requires.seen.1 ∙ sym (ap length c.soft.ensures)
