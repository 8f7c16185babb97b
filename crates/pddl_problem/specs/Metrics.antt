-- Believed: the trees of metrics.
use Rattle.std.specs.Prelude.{ℕ, List, [], ◌∷◌, Option, Some, None, if◌then◌else◌}
use lib.Chars.{codes}
use Rattle.pddl_terms.specs.declared.problem_heads.MeasureHead.{MeasureHead}
use Rattle.pddl_terms.specs.declared.problem_heads.MeasureHead.TheVariants as heads
use Rattle.pddl_terms.specs.declared.files.Aim.{Aim}
use Rattle.pddl_terms.specs.declared.files.Aim.TheVariants.{Minimize, Maximize}
use Rattle.pddl_terms.specs.declared.files.Metric.{Metric}
use Rattle.pddl_terms.specs.declared.trees.ExprTree.{ExprTree}
use Rattle.pddl_terms.specs.declared.trees.ExprTree.TheVariants as expr
use Rattle.pddl_terms.specs.Words.{same_word}
use Rattle.pddl_terms.specs.Content.{Lexeme, Content, End, Word, Inner, behind}
use Rattle.pddl_terms.specs.Expressions.{expr_word, expr_by}
use Rattle.pddl_terms.specs.Shape.{word_ahead}
use Rattle.pddl_terms.specs.Goals.{measure_head}
use Rattle.pddl_terms.specs.Sections.{name_at}

-- a word as an expression of a metric
abbrev pub measure_word : Lexeme → ExprTree
measure_word w = if same_word w.bytes (codes "total-time") then expr.TotalTime w.at else expr_word w

-- An expression that opens at a place with the word, `parts` being the expressions that follow in the
-- list, `first` the one that stands next and `second` the one behind it.
abbrev pub measure_by : MeasureHead → ℕ → Lexeme → List ExprTree → ExprTree → ExprTree → Content
    → ExprTree
measure_by heads.TotalTime at w parts first second x = expr.TotalTime at
measure_by heads.Violated at w parts first second x = expr.Violated at (name_at x)
measure_by heads.TimeCost at w parts first second x = expr.TimeCost at (name_at x)
measure_by (heads.Expression h) at w parts first second x = expr_by h at w parts first second x

unfoldable mutual
  -- the expression of a list that opens at a place
  pub measure_list : ℕ → Content → ExprTree
  measure_list at (Word w more) =
      measure_by (measure_head w.bytes) at w (measures more) (measure_tree more) (measure_behind more) more
  measure_list at (End close) = expr.LeftOut at
  measure_list at (Inner place inner more) = expr.LeftOut at

  -- mexpr*
  pub measures : Content → List ExprTree
  measures (End close) = []
  measures (Word w more) = measure_word w ∷ measures more
  measures (Inner at inner more) = measure_list at inner ∷ measures more

  -- the expression behind what stands next
  pub measure_behind : Content → ExprTree
  measure_behind (End close) = expr.LeftOut 0
  measure_behind (Word w more) = measure_tree more
  measure_behind (Inner at inner more) = measure_tree more

  -- the expression that stands next
  pub measure_tree : Content → ExprTree
  measure_tree (End close) = expr.LeftOut 0
  measure_tree (Word w more) = measure_word w
  measure_tree (Inner at inner more) = measure_list at inner

-- the direction that a word says
abbrev pub aim_of : List ℕ → Aim
aim_of word = if same_word word (codes "minimize") then Minimize else Maximize

-- dir mexpr
abbrev pub metric_tree : Content → Metric
metric_tree x = record { aim = aim_of (word_ahead x); expression = measure_tree (behind x) }

abbrev pub metric_of : Option Content → Option Metric
metric_of None = None
metric_of (Some x) = Some (metric_tree x)
