use Rattle.std.proofs.Common.{◌∙◌, ap}
use Rattle.pddl_terms.specs.declared.trees.CondTree.TheVariants as cond
use Rattle.pddl_terms.specs.Expressions.{side_tree}
use Rattle.pddl_terms.proofs.Building.{both}
use Rattle.pddl_terms.proofs.conditions.equal.Goals as goal

pub returns : goal.returns
returns c = both (cond.Equal c.args.place) c.in_ok-left.ensures (c.in_ok-right.ensures ∙ ap side_tree c.next.ensures.behind)
