-- Believed: the trees of problems.
use Rattle.std.specs.Prelude.{ℕ, List, Option, Some, None}
use lib.Chars.{codes}
use Rattle.sexpr_text.specs.Forms.{Lexed}
use Rattle.pddl_terms.specs.declared.files.Problem.{Problem}
use Rattle.pddl_terms.specs.declared.trees.CondTree.TheVariants as cond
use Rattle.pddl_terms.specs.declared.trees.GoalTree.{GoalTree}
use Rattle.pddl_terms.specs.declared.trees.GoalTree.TheVariants as goal
use Rattle.pddl_terms.specs.Content.{Content, End, Word, Inner, behind, content_at}
use Rattle.pddl_terms.specs.Shape.{wrong}
use Rattle.pddl_terms.specs.Files.{problem_file}
use Rattle.pddl_terms.specs.Sections.{section, left_out, heading, names_of, groups_of, constraints_of}
use Rattle.pddl_problem.specs.Goals.{goal_tree}
use Rattle.pddl_problem.specs.Metrics.{metric_of}
use Rattle.pddl_problem.specs.Entries.{entries_of}
use Rattle.pddl_problem.specs.TimeCosts.{costs_of}

abbrev pub goal_of : Option Content → GoalTree
goal_of None = goal.Condition (cond.Empty 0)
goal_of (Some x) = goal_tree x

-- a problem, from its heading on
unfoldable pub problem_of : Content → Problem
problem_of x = record {
  name = heading x;
  domain = heading (behind x);
  requirements = names_of (section (codes ":requirements") x);
  objects = groups_of (section (codes ":objects") x);
  init = entries_of (section (codes ":init") x);
  goal = goal_of (section (codes ":goal") x);
  constraints = constraints_of (section (codes ":constraints") x);
  time_costs = costs_of (section (codes ":time-costs") x);
  metric = metric_of (section (codes ":metric") x);
  left_out = left_out x;
}

-- ( define ( problem NAME ) ( :domain NAME ) psec* ), where it stands next
unfoldable pub problem_tree : Content → Problem
problem_tree (Inner at inner more) = problem_of (behind inner)
problem_tree (End close) = problem_of (End close)
problem_tree (Word w more) = problem_of more

-- the places of the wrong shape in the tokens of a problem file, and the problem that they tell
abbrev pub wrong_problem : Lexed → List ℕ
wrong_problem forms = wrong problem_file (content_at forms 0)

abbrev pub problem_told : Lexed → Problem
problem_told forms = problem_tree (content_at forms 0)
