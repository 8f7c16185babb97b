use Rattle.std.proofs.Common.{◌∙◌, ap}
use Rattle.pddl_terms.specs.declared.trees.EffTree.TheVariants as eff
use Rattle.pddl_terms.specs.Expressions.{expr_tree}
use Rattle.pddl_terms.proofs.Building.{both}
use Rattle.pddl_domain.proofs.effects.change.Goals as goal

pub returns : goal.returns
returns c = both (eff.Change c.args.place c.args.kind) c.in_ok-fluent.ensures (c.in_ok-amount.ensures ∙ ap expr_tree c.next.ensures.behind)
