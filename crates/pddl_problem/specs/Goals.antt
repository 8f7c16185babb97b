-- Believed: the trees of goals and of their preferences.
use Rattle.std.specs.Prelude.{ℕ, Bool, true, false, List, [], ◌∷◌, Some, None, if◌then◌else◌}
use Rattle.pddl_terms.specs.declared.heads.CondHead.{CondHead}
use Rattle.pddl_terms.specs.declared.heads.CondHead.TheVariants as cond
use Rattle.pddl_terms.specs.declared.heads.TreeHead.{TreeHead}
use Rattle.pddl_terms.specs.declared.heads.TreeHead.TheVariants as tree
use Rattle.pddl_terms.specs.declared.problem_heads.GoalHead.{GoalHead}
use Rattle.pddl_terms.specs.declared.problem_heads.GoalHead.TheVariants as goal_heads
use Rattle.pddl_terms.specs.declared.problem_heads.SoftHead.{SoftHead}
use Rattle.pddl_terms.specs.declared.problem_heads.SoftHead.TheVariants as soft_heads
use Rattle.pddl_terms.specs.declared.trees.CondTree.TheVariants as conditions
use Rattle.pddl_terms.specs.declared.trees.FactForm.TheVariants as facts
use Rattle.pddl_terms.specs.declared.trees.GoalTree.{GoalTree}
use Rattle.pddl_terms.specs.declared.trees.GoalTree.TheVariants as goal
use Rattle.pddl_terms.specs.declared.trees.SoftTree.{SoftTree}
use Rattle.pddl_terms.specs.declared.trees.SoftTree.TheVariants as soft
use Rattle.pddl_terms.specs.Content.{Content, End, Word, Inner, behind}
use Rattle.pddl_terms.specs.Typed.{name_of, variables}
use Rattle.pddl_terms.specs.Expressions.{side_tree}
use Rattle.pddl_terms.specs.Conditions.{cmp_list, cond_list}
use Rattle.pddl_terms.specs.Formulas.{fact_list}
use Rattle.pddl_terms.specs.Goals.{goal_head, soft_head}

-- Preferences.

-- whether a list that such a word begins is a comparison, `deeper` saying so of what stands next in it
abbrev pub compares_by : SoftHead → Bool → Bool
compares_by (soft_heads.Compare c) deeper = true
compares_by (soft_heads.Formula tree.Not) deeper = deeper
compares_by (soft_heads.Formula h) deeper = false

unfoldable mutual
  -- whether the list is a comparison, or a negated one
  pub compares : Content → Bool
  compares (Word w more) = compares_by (soft_head w.bytes) (is_comparison more)
  compares (End close) = false
  compares (Inner at inner more) = false

  -- whether one stands next
  pub is_comparison : Content → Bool
  is_comparison (Inner at inner more) = compares inner
  is_comparison (End close) = false
  is_comparison (Word w more) = false

-- a negated comparison or a negated formula, whose list holds this
abbrev pub denied_soft : Bool → ℕ → Content → SoftTree
denied_soft compared at x =
    if compared then soft.Comparison (cmp_list at x) else soft.Formula (fact_list at x)

-- a formula, whose list holds this; `parts` are what follows its word
abbrev pub soft_formula : TreeHead → ℕ → List SoftTree → Content → SoftTree
soft_formula tree.And at parts x = soft.And at parts
soft_formula tree.Equal at parts x = soft.Equal at (side_tree (behind x)) (side_tree (behind (behind x)))
soft_formula tree.Not at parts x = denied_soft (is_comparison (behind x)) at x
soft_formula h at parts x = soft.Formula (fact_list at x)

abbrev pub soft_by : SoftHead → ℕ → List SoftTree → Content → SoftTree
soft_by (soft_heads.Compare c) at parts x = soft.Comparison (cmp_list at x)
soft_by (soft_heads.Formula h) at parts x = soft_formula h at parts x

unfoldable mutual
  -- what a preference asks whose list opens at a place
  pub soft_list : ℕ → Content → SoftTree
  soft_list at (Word w more) = soft_by (soft_head w.bytes) at (softs more) (Word w more)
  soft_list at (End close) = soft.Formula (facts.Empty at)
  soft_list at (Inner place inner more) = soft.Formula (facts.Empty at)

  -- soft*
  pub softs : Content → List SoftTree
  softs (End close) = []
  softs (Word w more) = softs more
  softs (Inner at inner more) = soft_list at inner ∷ softs more

-- what a preference asks, where it stands next
unfoldable pub soft_tree : Content → SoftTree
soft_tree (Inner at inner more) = soft_list at inner
soft_tree (End close) = soft.Formula (facts.Empty 0)
soft_tree (Word w more) = soft.Formula (facts.Empty 0)

-- [NAME] soft
unfoldable pub preference : ℕ → Content → GoalTree
preference at (Word w more) = goal.Preference at (Some (name_of w)) (soft_tree more)
preference at (Inner place inner more) = goal.Preference at None (soft_list place inner)
preference at (End close) = goal.Preference at None (soft.Formula (facts.Empty 0))

-- Goals.

-- A goal that a word of a condition begins, whose list holds this; `parts` are what follows its word
-- and `body` is what stands behind the first of that.
abbrev pub goal_cond : CondHead → ℕ → List GoalTree → GoalTree → Content → GoalTree
goal_cond cond.And at parts body x = goal.And at parts
goal_cond cond.Forall at parts body x = goal.Forall at (variables (behind x)) body
goal_cond h at parts body x = goal.Condition (cond_list at x)

abbrev pub goal_by : GoalHead → ℕ → List GoalTree → GoalTree → Content → GoalTree
goal_by goal_heads.Preference at parts body x = preference at (behind x)
goal_by (goal_heads.Condition h) at parts body x = goal_cond h at parts body x

unfoldable mutual
  -- the goal of a list that opens at a place
  pub goal_list : ℕ → Content → GoalTree
  goal_list at (Word w more) =
      goal_by (goal_head w.bytes) at (goals more) (goal_behind more) (Word w more)
  goal_list at (End close) = goal.Condition (conditions.Empty at)
  goal_list at (Inner place inner more) = goal.Condition (conditions.Empty at)

  -- goal*
  pub goals : Content → List GoalTree
  goals (End close) = []
  goals (Word w more) = goals more
  goals (Inner at inner more) = goal_list at inner ∷ goals more

  -- the goal behind what stands next
  pub goal_behind : Content → GoalTree
  goal_behind (End close) = goal.Condition (conditions.Empty 0)
  goal_behind (Word w more) = goal_tree more
  goal_behind (Inner at inner more) = goal_tree more

  -- the goal that stands next
  pub goal_tree : Content → GoalTree
  goal_tree (Inner at inner more) = goal_list at inner
  goal_tree (End close) = goal.Condition (conditions.Empty 0)
  goal_tree (Word w more) = goal.Condition (conditions.Empty 0)
