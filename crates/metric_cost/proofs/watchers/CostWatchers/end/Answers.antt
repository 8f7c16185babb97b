use Rattle.std.proofs.Common.{◌≡◌, List, length, ◌∙◌, ap, sym, subst}
use Rattle.std.specs.List.{AllByRecursion}
use Rattle.exact_lin.specs.Forms.{Covers}
use Rattle.task_types.specs.declared.costs.Metric.{Metric}
use Rattle.task_types.specs.declared.costs.Soft.{Soft}
use Rattle.task_types.specs.Plan.{Plan}
use Rattle.task_types.specs.Cost.{total_time}
use Rattle.task_types.specs.Trace.{trace}
use Rattle.timed_meaning.specs.Answers.{told}
use Rattle.metric_cost.specs.declared.watch.Watch.{Watch}
use Rattle.metric_cost.specs.Terms.{CanReckon}
use Rattle.metric_cost.specs.Watching.{WatchEach}
use Rattle.metric_cost.proofs.Watching.{each-length}
use Rattle.metric_cost.proofs.Counting.{metric-covers, softs-reckon}
use Rattle.metric_cost.proofs.Adding.{end-told, end-stopped}
use Rattle.metric_cost.proofs.watchers.CostWatchers.end.Goals as goal

pub base_cost-requires : goal.base_cost-requires
base_cost-requires c = subst (λ (m : Metric). Covers (length c.args.fluents.now) m.fluents.terms) (sym c.metric-metric.ensures) (metric-covers c.args.task.now.parts (length c.args.fluents.now) c.requires.fluents c.args.task.now.well_made)

pub add_costs-requires-clause-covered : goal.add_costs-requires-clause-covered
add_costs-requires-clause-covered c = subst (λ (ss : List Soft). AllByRecursion (λ s. CanReckon s c.args.facts.now c.args.fluents.now) ss) (sym c.soft.ensures)
    (softs-reckon c.args.task.now.parts c.args.facts.now c.requires.facts c.args.fluents.now c.requires.fluents c.args.task.now.well_made)

pub add_costs-requires-clause-each : goal.add_costs-requires-clause-each
add_costs-requires-clause-each c = ap length c.as_slice.ensures.value ∙ each-length c.args.task.now.parts.soft c.args.self.now.watches.items (trace c.args.task.now.parts c.args.plan.now) c.requires.seen ∙ sym (ap length c.soft.ensures)

pub returns-in-Ok : goal.returns-in-Ok
returns-in-Ok c =
    let seen = subst (λ (ss : List Soft). WatchEach ss c.as_slice.result.now (trace c.args.task.now.parts c.args.plan.now)) (sym c.soft.ensures)
    (subst (λ (ws : List Watch). WatchEach c.args.task.now.parts.soft ws (trace c.args.task.now.parts c.args.plan.now)) (sym c.as_slice.ensures.value) c.requires.seen) in
    end-told c.args.task.now.parts c.args.plan.now c.metric-metric.result.now c.total_time.result (told c.args.facts.now c.args.fluents.now) c.metric-metric.ensures (c.total_time.ensures ∙ ap total_time c.lines.ensures) c.requires.last
    c.in-Ok.base c.soft.result.now c.add_costs.result c.soft.ensures c.in-Ok.ensures.0 c.in-Ok.ensures.1 (c.add_costs.ensures (trace c.args.task.now.parts c.args.plan.now) seen)

pub returns-in-Err : goal.returns-in-Err
returns-in-Err c = end-stopped c.args.task.now.parts c.args.plan.now c.metric-metric.result.now c.total_time.result (told c.args.facts.now c.args.fluents.now) c.metric-metric.ensures (c.total_time.ensures ∙ ap total_time c.lines.ensures) c.requires.last c.in-Err.ensures
