-- Believed: worked examples: fluents without a value, divisors of value 0, and what is assigned twice.
use Rattle.std.specs.Prelude.{◌≡◌, [], ◌∷◌, pos, Some, None, codes}
use Rattle.std.specs.List.{flat_map}
use Rattle.rational.specs.Rational.{whole}
use Rattle.pddl_terms.specs.declared.files.Domain.{Domain}
use Rattle.pddl_terms.specs.declared.files.Problem.{Problem}
use Rattle.pddl_terms.specs.declared.files.ActionBody.TheVariants as body
use Rattle.pddl_terms.specs.declared.trees.Call.TheVariants as call
use Rattle.pddl_terms.specs.declared.trees.ChangeKind.TheVariants as change
use Rattle.pddl_terms.specs.declared.trees.CondTree.TheVariants as cond
use Rattle.pddl_terms.specs.declared.files.Declared.TheVariants as declared
use Rattle.pddl_terms.specs.declared.trees.DurTree.TheVariants as dur
use Rattle.pddl_terms.specs.declared.trees.EffTree.TheVariants as eff
use Rattle.pddl_terms.specs.declared.trees.ExprTree.TheVariants as expr
use Rattle.pddl_terms.specs.declared.trees.GoalTree.TheVariants as goal
use Rattle.pddl_terms.specs.declared.files.InitEntry.TheVariants as init
use Rattle.pddl_terms.specs.declared.trees.Comparison.TheVariants as mark
use Rattle.pddl_terms.specs.declared.trees.TypeName.TheVariants as sort
use Rattle.pddl_terms.specs.declared.trees.TimedEff.TheVariants as teff
use Rattle.pddl_terms.specs.declared.trees.Term.TheVariants as term
use Rattle.ground_world.specs.FirstState.{world}
use Rattle.grounder.specs.Answer.{none_in, units}
use Rattle.grounder.specs.ExampleWords.{atom, fluents, group, kept_arguments, name, plain_domain, plain_problem}

-- A fluent without a value drops a binding, also where the binding only changes it.
-- (define (domain d) (:functions (f ?x)) (:action go :parameters (?x) :effect (increase (f ?x) 1)))
-- (define (problem e) (:domain d) (:objects a b) (:init (= (f b) 1)) (:goal (and)) )
abbrev pub no_value_drops_d : Domain
no_value_drops_d = record plain_domain {
  functions = declared.Named 0 (name 0 (codes "f")) (group (name 0 (codes "?x") ∷ []) sort.Object ∷ []) ∷ [];
  actions =
      (record {
        at = 0;
        name = name 0 (codes "go");
        parameters = group (name 0 (codes "?x") ∷ []) sort.Object ∷ [];
        body = body.Instant None
            (Some
            (eff.Change 0 change.Increase
            (call.Named (atom 0 (name 0 (codes "f")) (term.Variable (name 0 (codes "?x")) ∷ [])))
            (expr.Number 0 (whole (pos 1)))));
      })
      ∷ [];
}

abbrev pub no_value_drops_p : Problem
no_value_drops_p = record plain_problem {
  init =
      init.Value 0 (call.Named (atom 0 (name 0 (codes "f")) (term.Object (name 0 (codes "b")) ∷ [])))
      (whole (pos 1))
      ∷ [];
}

-- A zero divisor drops a binding.
-- (define (domain d) (:functions (f) (g ?x)) (:action go :parameters (?x) :effect (increase (f) (/ 1 (g ?x)))))
-- (define (problem e) (:domain d) (:objects a b) (:init (= (f) 0) (= (g a) 0) (= (g b) 2)) (:goal (and)) )
abbrev pub zero_divisor_drops_d : Domain
zero_divisor_drops_d = record plain_domain {
  functions =
      declared.Named 0 (name 0 (codes "f")) []
      ∷ declared.Named 0 (name 0 (codes "g")) (group (name 0 (codes "?x") ∷ []) sort.Object ∷ [])
      ∷ [];
  actions =
      (record {
        at = 0;
        name = name 0 (codes "go");
        parameters = group (name 0 (codes "?x") ∷ []) sort.Object ∷ [];
        body = body.Instant None
            (Some
            (eff.Change 0 change.Increase (call.Named (atom 0 (name 0 (codes "f")) []))
            (expr.Quotient 0 (expr.Number 0 (whole (pos 1)))
            (expr.Fluent (atom 0 (name 0 (codes "g")) (term.Variable (name 0 (codes "?x")) ∷ []))))));
      })
      ∷ [];
}

abbrev pub zero_divisor_drops_p : Problem
zero_divisor_drops_p = record plain_problem {
  init =
      init.Value 0 (call.Named (atom 0 (name 0 (codes "f")) [])) (whole (pos 0))
      ∷ init.Value 0 (call.Named (atom 0 (name 0 (codes "g")) (term.Object (name 0 (codes "a")) ∷ [])))
      (whole (pos 0))
      ∷ init.Value 0 (call.Named (atom 0 (name 0 (codes "g")) (term.Object (name 0 (codes "b")) ∷ [])))
      (whole (pos 2))
      ∷ [];
}

-- In the problem a zero divisor has no value, at the divisor.
-- (define (domain d) (:functions (g)))
-- (define (problem e) (:domain d) (:objects a b) (:init (= (g) 0)) (:goal (>= 1 (/ 2 (g)))) )
abbrev pub zero_divisor_in_goal_d : Domain
zero_divisor_in_goal_d = record plain_domain { functions = declared.Named 31 (name 32 (codes "g")) [] ∷ [] }

abbrev pub zero_divisor_in_goal_p : Problem
zero_divisor_in_goal_p = record plain_problem {
  init = init.Value 54 (call.Named (atom 57 (name 58 (codes "g")) [])) (whole (pos 0)) ∷ [];
  goal = goal.Condition
      (cond.Compare 72 mark.AtLeast (expr.Number 76 (whole (pos 1)))
      (expr.Quotient 78 (expr.Number 81 (whole (pos 2))) (expr.Fluent (atom 83 (name 84 (codes "g")) []))));
}

-- A unit with a fluent without a value tells of this alone.
-- (define (domain d) (:functions (f) (g)))
-- (define (problem e) (:domain d) (:objects a b) (:init (= (g) 0)) (:goal (and (>= (/ 1 (g)) 0) (>= (f) 0))) )
abbrev pub unvalued_unit_d : Domain
unvalued_unit_d = record plain_domain {
  functions = declared.Named 31 (name 32 (codes "f")) [] ∷ declared.Named 35 (name 36 (codes "g")) [] ∷ [];
}

abbrev pub unvalued_unit_p : Problem
unvalued_unit_p = record plain_problem {
  init = init.Value 54 (call.Named (atom 57 (name 58 (codes "g")) [])) (whole (pos 0)) ∷ [];
  goal = goal.And 72
      (goal.Condition
      (cond.Compare 77 mark.AtLeast
      (expr.Quotient 81 (expr.Number 84 (whole (pos 1))) (expr.Fluent (atom 86 (name 87 (codes "g")) [])))
      (expr.Number 91 (whole (pos 0))))
      ∷ goal.Condition
      (cond.Compare 94 mark.AtLeast (expr.Fluent (atom 98 (name 99 (codes "f")) []))
      (expr.Number 102 (whole (pos 0))))
      ∷ []);
}

-- An action that assigns a fluent twice at one end is dropped; once at each end it is kept.
-- (define (domain d) (:constants a) (:functions (f ?x)) (:action go :parameters (?x ?y) :effect (and (assign (f ?x)
-- 1) (assign (f ?y) 2))) (:durative-action to :duration (and) :effect (and (at start (assign (f a) 1)) (at end
-- (assign (f a) 2)))))
-- (define (problem e) (:domain d) (:objects b) (:init (= (f a) 0) (= (f b) 0)) (:goal (and)) )
abbrev pub assigned_twice_d : Domain
assigned_twice_d = record plain_domain {
  constants = group (name 0 (codes "a") ∷ []) sort.Object ∷ [];
  functions = declared.Named 0 (name 0 (codes "f")) (group (name 0 (codes "?x") ∷ []) sort.Object ∷ []) ∷ [];
  actions =
      (record {
        at = 0;
        name = name 0 (codes "go");
        parameters = group (name 0 (codes "?x") ∷ name 0 (codes "?y") ∷ []) sort.Object ∷ [];
        body = body.Instant None
            (Some
            (eff.And 0
            (eff.Change 0 change.Assign
            (call.Named (atom 0 (name 0 (codes "f")) (term.Variable (name 0 (codes "?x")) ∷ [])))
            (expr.Number 0 (whole (pos 1)))
            ∷ eff.Change 0 change.Assign
            (call.Named (atom 0 (name 0 (codes "f")) (term.Variable (name 0 (codes "?y")) ∷ [])))
            (expr.Number 0 (whole (pos 2)))
            ∷ [])));
      })
      ∷ (record {
        at = 0;
        name = name 0 (codes "to");
        parameters = [];
        body = body.Durative (dur.And 0 []) None
            (Some
            (teff.And 0
            (teff.AtStart 0
            (eff.Change 0 change.Assign
            (call.Named (atom 0 (name 0 (codes "f")) (term.Object (name 0 (codes "a")) ∷ [])))
            (expr.Number 0 (whole (pos 1))))
            ∷ teff.AtEnd 0
            (eff.Change 0 change.Assign
            (call.Named (atom 0 (name 0 (codes "f")) (term.Object (name 0 (codes "a")) ∷ [])))
            (expr.Number 0 (whole (pos 2))))
            ∷ [])));
      })
      ∷ [];
}

abbrev pub assigned_twice_p : Problem
assigned_twice_p = record plain_problem {
  objects = group (name 0 (codes "b") ∷ []) sort.Object ∷ [];
  init =
      init.Value 0 (call.Named (atom 0 (name 0 (codes "f")) (term.Object (name 0 (codes "a")) ∷ [])))
      (whole (pos 0))
      ∷ init.Value 0 (call.Named (atom 0 (name 0 (codes "f")) (term.Object (name 0 (codes "b")) ∷ [])))
      (whole (pos 0))
      ∷ [];
}

pub record ValuesComeOut : Type 0 where
  -- A fluent without a value drops a binding, also where the binding only changes it.
  pub no_value_drops : kept_arguments no_value_drops_d no_value_drops_p ≡ (1 ∷ []) ∷ []
  pub no_value_no_fluent : fluents no_value_drops_d no_value_drops_p ≡ (0 ∷ 1 ∷ []) ∷ []
  -- A zero divisor drops a binding.
  pub zero_divisor_drops : kept_arguments zero_divisor_drops_d zero_divisor_drops_p ≡ (1 ∷ []) ∷ []
  -- In the problem a zero divisor has no value, at the divisor.
  pub zero_divisor_in_goal : flat_map (none_in (world zero_divisor_in_goal_d zero_divisor_in_goal_p))
      (units (world zero_divisor_in_goal_d zero_divisor_in_goal_p) zero_divisor_in_goal_d zero_divisor_in_goal_p)
      ≡ 83 ∷ []
  -- A unit with a fluent without a value tells of this alone.
  pub unvalued_unit : flat_map (none_in (world unvalued_unit_d unvalued_unit_p))
      (units (world unvalued_unit_d unvalued_unit_p) unvalued_unit_d unvalued_unit_p)
      ≡ 98 ∷ []
  -- An action that assigns a fluent twice at one end is dropped; once at each end it is kept.
  pub assigned_twice : kept_arguments assigned_twice_d assigned_twice_p ≡ (0 ∷ 1 ∷ []) ∷ (1 ∷ 0 ∷ []) ∷ [] ∷ []
