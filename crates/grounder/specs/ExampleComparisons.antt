-- Believed: worked examples: equalities of terms, and the forms of comparisons.
use Rattle.std.specs.Prelude.{◌≡◌, [], ◌∷◌, pos, negsuc, Some, None, codes, map}
use Rattle.rational.specs.Rational.{whole}
use Rattle.pddl_terms.specs.declared.files.Domain.{Domain}
use Rattle.pddl_terms.specs.declared.files.Problem.{Problem}
use Rattle.task_types.specs.declared.constraints.Trail.{Trail}
use Rattle.pddl_terms.specs.declared.files.ActionBody.TheVariants as body
use Rattle.pddl_terms.specs.declared.trees.Call.TheVariants as call
use Rattle.pddl_terms.specs.declared.trees.ChangeKind.TheVariants as change
use Rattle.pddl_terms.specs.declared.trees.ConForm.TheVariants as con
use Rattle.pddl_terms.specs.declared.trees.CondTree.TheVariants as cond
use Rattle.pddl_terms.specs.declared.files.Declared.TheVariants as declared
use Rattle.pddl_terms.specs.declared.trees.EffTree.TheVariants as eff
use Rattle.pddl_terms.specs.declared.trees.ExprTree.TheVariants as expr
use Rattle.task_types.specs.declared.formulas.FactTree.TheVariants as fact
use Rattle.pddl_terms.specs.declared.trees.FactForm.TheVariants as form
use Rattle.pddl_terms.specs.declared.trees.GoalTree.TheVariants as goal
use Rattle.pddl_terms.specs.declared.files.InitEntry.TheVariants as init
use Rattle.pddl_terms.specs.declared.trees.Comparison.TheVariants as mark
use Rattle.pddl_terms.specs.declared.trees.Side.TheVariants as side
use Rattle.pddl_terms.specs.declared.trees.TypeName.TheVariants as sort
use Rattle.pddl_terms.specs.declared.trees.Trajectory.TheVariants as trail
use Rattle.ground_world.specs.Counts.{goal_count}
use Rattle.ground_world.specs.FirstState.{world}
use Rattle.grounder.specs.ExampleWords.{atom, goal_of, group, hards, name, plain_domain, plain_problem}

-- In the goal an equality of terms that fails is the form -1, one that holds is left out.
-- (define (domain d) (:predicates (p)))
-- (define (problem e) (:domain d) (:objects a b) (:init ) (:goal (and (= a a) (= a b) (not (= a a)))) )
abbrev pub failing_equality_in_goal_d : Domain
failing_equality_in_goal_d = record plain_domain { predicates = declared.Named 0 (name 0 (codes "p")) [] ∷ [] }

abbrev pub failing_equality_in_goal_p : Problem
failing_equality_in_goal_p = record plain_problem {
  goal = goal.And 0
      (goal.Condition (cond.Equal 0 (side.Bare (name 0 (codes "a"))) (side.Bare (name 0 (codes "a"))))
      ∷ goal.Condition (cond.Equal 0 (side.Bare (name 0 (codes "a"))) (side.Bare (name 0 (codes "b"))))
      ∷ goal.Condition (cond.Not 0 (cond.Equal 0 (side.Bare (name 0 (codes "a"))) (side.Bare (name 0 (codes "a")))))
      ∷ []);
}

-- In a formula an equality of terms is true, or the negation of true.
-- (define (domain d) (:predicates (p)))
-- (define (problem e) (:domain d) (:objects a b) (:init ) (:goal (and)) (:constraints (always (or (= a a) (not (= a
-- b)) (= a b)))))
abbrev pub equality_in_formula_d : Domain
equality_in_formula_d = record plain_domain { predicates = declared.Named 0 (name 0 (codes "p")) [] ∷ [] }

abbrev pub equality_in_formula_p : Problem
equality_in_formula_p = record plain_problem {
  constraints = Some
      (con.Hard
      (trail.Always 0
      (form.Or 0
      (form.Equal 0 (side.Bare (name 0 (codes "a"))) (side.Bare (name 0 (codes "a")))
      ∷ form.Not 0 (form.Equal 0 (side.Bare (name 0 (codes "a"))) (side.Bare (name 0 (codes "b"))))
      ∷ form.Equal 0 (side.Bare (name 0 (codes "a"))) (side.Bare (name 0 (codes "b")))
      ∷ []))));
}

-- An `=` of two functions is a comparison, of a function and an object that no function is named after an equality.
-- (define (domain d) (:predicates (p)) (:functions (a) (b)))
-- (define (problem e) (:domain d) (:objects a b k) (:init (= a 1) (= b 1)) (:goal (and (= a b) (= a k) (= k k))) )
abbrev pub equality_by_names_d : Domain
equality_by_names_d = record plain_domain {
  predicates = declared.Named 0 (name 0 (codes "p")) [] ∷ [];
  functions = declared.Named 0 (name 0 (codes "a")) [] ∷ declared.Named 0 (name 0 (codes "b")) [] ∷ [];
}

abbrev pub equality_by_names_p : Problem
equality_by_names_p = record plain_problem {
  objects = group (name 0 (codes "a") ∷ name 0 (codes "b") ∷ name 0 (codes "k") ∷ []) sort.Object ∷ [];
  init =
      init.Value 0 (call.Named (atom 0 (name 0 (codes "a")) [])) (whole (pos 1))
      ∷ init.Value 0 (call.Named (atom 0 (name 0 (codes "b")) [])) (whole (pos 1))
      ∷ [];
  goal = goal.And 0
      (goal.Condition (cond.Equal 0 (side.Bare (name 0 (codes "a"))) (side.Bare (name 0 (codes "b"))))
      ∷ goal.Condition (cond.Equal 0 (side.Bare (name 0 (codes "a"))) (side.Bare (name 0 (codes "k"))))
      ∷ goal.Condition (cond.Equal 0 (side.Bare (name 0 (codes "k"))) (side.Bare (name 0 (codes "k"))))
      ∷ []);
}

-- A numeric equality is both differences; a fluent that isn't static is an unknown.
-- (define (domain d) (:functions (f)) (:action go :effect (increase (f) 1)))
-- (define (problem e) (:domain d) (:objects a b) (:init (= (f) 1)) (:goal (= (f) 2)) )
abbrev pub numeric_equality_d : Domain
numeric_equality_d = record plain_domain {
  functions = declared.Named 0 (name 0 (codes "f")) [] ∷ [];
  actions =
      (record {
        at = 0;
        name = name 0 (codes "go");
        parameters = [];
        body = body.Instant None
            (Some
            (eff.Change 0 change.Increase (call.Named (atom 0 (name 0 (codes "f")) []))
            (expr.Number 0 (whole (pos 1)))));
      })
      ∷ [];
}

abbrev pub numeric_equality_p : Problem
numeric_equality_p = record plain_problem {
  init = init.Value 0 (call.Named (atom 0 (name 0 (codes "f")) [])) (whole (pos 1)) ∷ [];
  goal = goal.Condition
      (cond.Equal 0 (side.Expression (expr.Fluent (atom 0 (name 0 (codes "f")) [])))
      (side.Expression (expr.Number 0 (whole (pos 2)))));
}

-- `<=` is the right side less the left, `>=` the left less the right.
-- (define (domain d) (:functions (f)) (:action go :effect (increase (f) 1)))
-- (define (problem e) (:domain d) (:objects a b) (:init (= (f) 1)) (:goal (and (<= (f) 2) (>= (f) 3))) )
abbrev pub at_most_d : Domain
at_most_d = record plain_domain {
  functions = declared.Named 0 (name 0 (codes "f")) [] ∷ [];
  actions =
      (record {
        at = 0;
        name = name 0 (codes "go");
        parameters = [];
        body = body.Instant None
            (Some
            (eff.Change 0 change.Increase (call.Named (atom 0 (name 0 (codes "f")) []))
            (expr.Number 0 (whole (pos 1)))));
      })
      ∷ [];
}

abbrev pub at_most_p : Problem
at_most_p = record plain_problem {
  init = init.Value 0 (call.Named (atom 0 (name 0 (codes "f")) [])) (whole (pos 1)) ∷ [];
  goal = goal.And 0
      (goal.Condition
      (cond.Compare 0 mark.AtMost (expr.Fluent (atom 0 (name 0 (codes "f")) [])) (expr.Number 0 (whole (pos 2))))
      ∷ goal.Condition
      (cond.Compare 0 mark.AtLeast (expr.Fluent (atom 0 (name 0 (codes "f")) [])) (expr.Number 0 (whole (pos 3))))
      ∷ []);
}

pub record ComparisonsComeOut : Type 0 where
  -- In the goal an equality of terms that fails is the form -1, one that holds is left out.
  pub failing_equality_in_goal : (goal_of failing_equality_in_goal_d failing_equality_in_goal_p).comparisons
      ≡ record { constant = whole (negsuc 0); terms = [] } ∷ record { constant = whole (negsuc 0); terms = [] } ∷ []
  -- In a formula an equality of terms is true, or the negation of true.
  pub equality_in_formula : map (λ (t : Trail). t.first) (hards equality_in_formula_d equality_in_formula_p)
      ≡ (fact.Or (fact.True ∷ (fact.Not (fact.Not fact.True)) ∷ (fact.Not fact.True) ∷ [])) ∷ []
  -- An `=` of two functions is a comparison, of a function and an object that no function is named after an equality.
  pub equality_by_names : goal_count (world equality_by_names_d equality_by_names_p) equality_by_names_p.goal ≡ 4
  -- A numeric equality is both differences; a fluent that isn't static is an unknown.
  pub numeric_equality : (goal_of numeric_equality_d numeric_equality_p).comparisons
      ≡ record { constant = whole (negsuc 1); terms = (0, whole (pos 1)) ∷ [] } ∷ record { constant = whole (pos 2); terms = (0, whole (negsuc 0)) ∷ [] } ∷ []
  -- `<=` is the right side less the left, `>=` the left less the right.
  pub at_most : (goal_of at_most_d at_most_p).comparisons
      ≡ record { constant = whole (pos 2); terms = (0, whole (negsuc 0)) ∷ [] } ∷ record { constant = whole (negsuc 2); terms = (0, whole (pos 1)) ∷ [] } ∷ []
