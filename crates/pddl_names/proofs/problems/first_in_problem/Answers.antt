use Rattle.std.proofs.Common.{◌∙◌, ap, [], ◌++◌}
use Rattle.pddl_names.specs.Offences.{least}
use Rattle.pddl_names.specs.Walks.{goal_offences}
use Rattle.pddl_names.specs.Files.{domain_name_offences, objects_offences, init_offences, constraints_offences, all_cost_offences, metric_offences}
use Rattle.pddl_names.proofs.Least.{least-both}
use Rattle.pddl_names.proofs.problems.first_in_problem.Goals as goal

pub returns : goal.returns
returns c =
    let p = c.args.phase in
    let w = c.args.tables.now in
    let d = c.args.domain.now in
    let problem = c.args.problem.now in
    let name = domain_name_offences p d.name problem.domain in
    let objects = objects_offences p w d.constants problem.objects in
    let init = init_offences p w problem.init in
    let asked = goal_offences p w [] problem.goal in
    let constraints = constraints_offences p w problem.constraints in
    let costs = all_cost_offences p w problem.time_costs in
    let metric = metric_offences p w problem.metric in
    c.earlier.ensures
    ∙ least-both _ _ (((name ++ objects) ++ init) ++ (asked ++ constraints)) (costs ++ metric)
    (c.earlier-held.ensures
    ∙ least-both _ _ ((name ++ objects) ++ init) (asked ++ constraints)
    (c.earlier-start.ensures
    ∙ least-both _ _ (name ++ objects) init
    (c.earlier-declared.ensures
    ∙ least-both _ _ name objects c.in_domain_name-name.ensures
    (c.in_ok-objects.ensures ∙ ap (λ l. least (objects_offences p w l c.as_slice-object_list.result.now)) c.as_slice-constant_list.ensures
    ∙ ap (λ l. least (objects_offences p w d.constants l)) c.as_slice-object_list.ensures))
    (c.in_ok-init.ensures ∙ ap (λ l. least (init_offences p w l)) c.as_slice-entry_list.ensures))
    (c.earlier-asked.ensures ∙ least-both _ _ asked constraints c.in_ok-goal.ensures c.in_ok-constraints.ensures))
    (c.earlier-measured.ensures
    ∙ least-both _ _ costs metric (c.in_ok-costs.ensures ∙ ap (λ l. least (all_cost_offences p w l)) c.as_slice-cost_list.ensures) c.first_in_metric-metric.ensures)
