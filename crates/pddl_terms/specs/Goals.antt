-- Believed: what may follow in a list of a goal, of a preference of a goal, or of a metric.
--   goal  = cond | ( and goal* ) | ( forall ( typedvars ) goal ) | ( preference [NAME] soft )
--   soft  = tree | cmp | ( and soft* )
--   mexpr = expr without ?duration, with ( total-time ) | total-time | ( is-violated NAME ) | ( time-cost NAME )
use Rattle.std.specs.Prelude.{ℕ, Bool, ◌||◌, List, Option, Some, None, if◌then◌else◌}
use lib.Chars.{codes}
use Rattle.sexpr_text.specs.declared.token.TokenKind.{TokenKind}
use Rattle.pddl_terms.specs.declared.heads.CondHead.{CondHead}
use Rattle.pddl_terms.specs.declared.heads.CondHead.TheVariants as cond
use Rattle.pddl_terms.specs.declared.heads.TreeHead.{TreeHead}
use Rattle.pddl_terms.specs.declared.heads.TreeHead.TheVariants as tree
use Rattle.pddl_terms.specs.declared.heads.ExprHead.{ExprHead}
use Rattle.pddl_terms.specs.declared.problem_heads.GoalHead.{GoalHead}
use Rattle.pddl_terms.specs.declared.problem_heads.GoalHead.TheVariants as goal
use Rattle.pddl_terms.specs.declared.problem_heads.SoftHead.{SoftHead}
use Rattle.pddl_terms.specs.declared.problem_heads.SoftHead.TheVariants as soft
use Rattle.pddl_terms.specs.declared.problem_heads.MeasureHead.{MeasureHead}
use Rattle.pddl_terms.specs.declared.problem_heads.MeasureHead.TheVariants as measure
use Rattle.pddl_terms.specs.declared.grammar.ProblemLine.TheVariants as of_problem
use Rattle.pddl_terms.specs.declared.grammar.Line.TheVariants as line
use Rattle.pddl_terms.specs.declared.grammar.Rest.{Rest}
use Rattle.pddl_terms.specs.declared.grammar.Rest.TheVariants.{Nothing, One, Two, Many, OptionalName}
use Rattle.pddl_terms.specs.declared.trees.Comparison.{Comparison}
use Rattle.pddl_terms.specs.Words.{same_word}
use Rattle.pddl_terms.specs.Expressions.{expr_head, expr_rest}
use Rattle.pddl_terms.specs.Conditions.{comparison_of, cond_head, cond_rest}
use Rattle.pddl_terms.specs.Formulas.{tree_head, tree_rest}

-- What a word begins in a goal. A `preference` is the goal's, and so are `and` and `forall`.
unfoldable pub goal_head : List ℕ → GoalHead
goal_head word = if same_word word (codes "preference") then goal.Preference else goal.Condition (cond_head word)

-- of a goal that a word of a condition begins
abbrev pub goal_cond_rest : CondHead → TokenKind → Option Rest
goal_cond_rest cond.And kind = Some (Many (line.Problem of_problem.Goal))
goal_cond_rest cond.Forall kind = Some (Two line.VariableList (line.Problem of_problem.Goal))
goal_cond_rest h kind = cond_rest h kind

abbrev pub goal_rest : GoalHead → TokenKind → Option Rest
goal_rest goal.Preference kind = Some (OptionalName (line.Problem of_problem.Soft))
goal_rest (goal.Condition h) kind = goal_cond_rest h kind

abbrev pub compared_soft : Option Comparison → TreeHead → SoftHead
compared_soft None h = soft.Formula h
compared_soft (Some c) h = soft.Compare c

-- what a word begins in a preference of a goal
unfoldable pub soft_head : List ℕ → SoftHead
soft_head word = compared_soft (comparison_of word) (tree_head word)

-- what the `not` of a preference holds: a formula, or a comparison
abbrev pub denied_tree_rest : TreeHead → TokenKind → Option Rest
denied_tree_rest tree.Not kind = Some (One (line.Problem of_problem.SoftDenied))
denied_tree_rest h kind = tree_rest h kind

abbrev pub soft_denied_rest : SoftHead → TokenKind → Option Rest
soft_denied_rest (soft.Compare c) kind = Some (Two line.Expr line.Expr)
soft_denied_rest (soft.Formula h) kind = denied_tree_rest h kind

-- an `and` of a preference is always the preference's
abbrev pub soft_tree_rest : TreeHead → TokenKind → Option Rest
soft_tree_rest tree.And kind = Some (Many (line.Problem of_problem.Soft))
soft_tree_rest h kind = denied_tree_rest h kind

abbrev pub soft_rest : SoftHead → TokenKind → Option Rest
soft_rest (soft.Compare c) kind = Some (Two line.Expr line.Expr)
soft_rest (soft.Formula h) kind = soft_tree_rest h kind

-- what a word begins in the expression of a metric
unfoldable pub measure_head : List ℕ → MeasureHead
measure_head word =
    if same_word word (codes "total-time") then measure.TotalTime
    else (if same_word word (codes "is-violated") then measure.Violated
    else (if same_word word (codes "time-cost") then measure.TimeCost
    else measure.Expression (expr_head word)))

abbrev pub measure_rest : MeasureHead → TokenKind → Option Rest
measure_rest measure.TotalTime kind = Some Nothing
measure_rest measure.Violated kind = Some (One line.Name)
measure_rest measure.TimeCost kind = Some (One line.Name)
measure_rest (measure.Expression h) kind = expr_rest (line.Problem of_problem.Measure) h kind
