use Rattle.std.proofs.Common.{◌∙◌, ap}
use Rattle.pddl_terms.specs.declared.trees.Side.TheVariants as side
use Rattle.pddl_terms.proofs.Building.{answered, side_tree-end, side_tree-word, side_tree-list}
use Rattle.pddl_terms.proofs.expressions.side_tree.Goals as goal

pub returns-in-Word : goal.returns-in-Word
returns-in-Word c = answered _ (side_tree-word _ _ _ c.in-Word.ensures.here) c.side_word.ensures

pub returns-in_ok-expr_tree-in-End : goal.returns-in_ok-expr_tree-in-End
returns-in_ok-expr_tree-in-End c = ap side.Expression c.in_ok-expr_tree-in-End.ensures ∙ side_tree-end _ _ c.in-End.ensures

pub returns-in_ok-expr_tree-in-List : goal.returns-in_ok-expr_tree-in-List
returns-in_ok-expr_tree-in-List c = ap side.Expression c.in_ok-expr_tree-in-List.ensures ∙ side_tree-list _ _ _ _ c.in-List.ensures.here
