use Rattle.std.proofs.Common.{◌∙◌, ap}
use Rattle.pddl_terms.specs.declared.trees.CondTree.TheVariants as cond
use Rattle.pddl_terms.specs.Expressions.{expr_tree}
use Rattle.pddl_terms.proofs.Building.{both}
use Rattle.pddl_terms.proofs.conditions.compare.Goals as goal

pub returns : goal.returns
returns c = both (cond.Compare c.args.place c.args.comparison) c.in_ok-left.ensures (c.in_ok-right.ensures ∙ ap expr_tree c.next.ensures.behind)
