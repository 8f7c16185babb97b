use Rattle.std.proofs.Common.{◌≡◌, ◌≤◌, ap₂, subst, true, IfOk}
use Rattle.rational.specs.Rational.{ℚ}
use Rattle.task_types.specs.declared.costs.Soft.{Soft}
use Rattle.task_types.specs.declared.formulas.FactTree.{FactTree}
use Rattle.ground_world.specs.Counts.{formula_count}
use Rattle.grounder.specs.ShownGrounding.{ground_of}
use Rattle.grounder.specs.Task as task
use Rattle.grounder.proofs.Reaching.{parts_few}
use Rattle.grounder.proofs.LeafSteps.{one_few}
use Rattle.grounder.proofs.cost_terms.cost_term.Goals as goal

pub formula-requires : goal.formula-requires
formula-requires c = one_few (formula_count (ground_of c.args.grounding.now).world c.args.leaf.now.formula.now) c.requires

pub returns : goal.returns
returns c =
    subst (λ (r : Soft). IfOk c.soft_cost.result (λ (x : Soft). x ≡ r))
    (ap₂ (λ (f : FactTree) (q : ℚ). task.soft_cost f c.args.leaf.now.curve.now q) c.in_ok-tree.ensures c.cost_weight.ensures) c.soft_cost.ensures
