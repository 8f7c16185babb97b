use Rattle.std.proofs.Common.{◌∙◌, sym, ap, ◌+◌}
use Rattle.pddl_terms.specs.declared.trees.SoftTree.TheVariants as soft
use Rattle.pddl_terms.specs.Content.{content_at}
use Rattle.pddl_problem.specs.Goals.{denied_soft, is_comparison}
use Rattle.pddl_terms.proofs.Building.{at_head}
use Rattle.pddl_problem.proofs.Building.{cmp-held, fact-held}
use Rattle.pddl_problem.proofs.goals.denied_soft.Goals as goal

pub returns-in_ok-cmp_tree : goal.returns-in_ok-cmp_tree
returns-in_ok-cmp_tree c = at_head (λ b. denied_soft b c.args.list.at (content_at c.args.forms.now (c.args.at + 1)))
    (sym (ap is_comparison c.next.ensures.behind) ∙ sym c.is_comparison.ensures ∙ c.if-is_comparison.true) (ap soft.Comparison (c.in_ok-cmp_tree.ensures ∙ cmp-held _ _ _ _ c.requires.here))

pub returns-in_ok-fact_tree : goal.returns-in_ok-fact_tree
returns-in_ok-fact_tree c = at_head (λ b. denied_soft b c.args.list.at (content_at c.args.forms.now (c.args.at + 1)))
    (sym (ap is_comparison c.next.ensures.behind) ∙ sym c.is_comparison.ensures ∙ c.if-is_comparison.false) (ap soft.Formula (c.in_ok-fact_tree.ensures ∙ fact-held _ _ _ _ c.requires.here))
