use Rattle.std.proofs.Common.{◌≡◌, ◌∙◌, ap, ap₂, ◌≤◌, List, [], map, length, arith}
use Rattle.pddl_names.specs.Declarations.{Text, with_new}
use Rattle.ground_world.specs.Leaves.{Cost}
use Rattle.ground_world.specs.declared.leaves.CostLeaf.{CostLeaf}
use Rattle.ground_world.proofs.NewNames.{cost-names, cost-length}
use Rattle.ground_world.proofs.metric_unknowns.cost_names.Goals as goal

pub returns-clause-value : goal.returns-clause-value
returns-clause-value c =
    c.in_ok-add_costs.ensures
    ∙ ap₂ (λ (ns : List Text) (cs : List CostLeaf). with_new ns (map (λ l. l.name.now) cs)) c.new-names.ensures c.as_slice-2.ensures
    ∙ ap (with_new []) (cost-names c.in_ok-leaves.leaves ∙ ap (map (λ (k : Cost). k.name)) c.in_ok-leaves.ensures)

pub returns-clause-few : goal.returns-clause-few
returns-clause-few c =
    let cs : List CostLeaf = c.in_ok-leaves.leaves in
    let bound : length c.add_costs.new.names ≤ length cs =
    cost-length cs c.add_costs.new.names
    (c.in_ok-add_costs.ensures ∙ ap₂ (λ (ns : List Text) (cs : List CostLeaf). with_new ns (map (λ l. l.name.now) cs)) c.new-names.ensures c.as_slice-2.ensures) in
    let a : length c.as_slice.result.now ≡ length cs = ap length c.as_slice.ensures in
    omega (arith, c.in_ok-few.ensures)
