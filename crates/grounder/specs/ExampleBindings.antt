-- Believed: worked examples: which bindings make actions, and in which order.
use Rattle.std.specs.Prelude.{◌≡◌, [], ◌∷◌, true, Some, None, codes}
use Rattle.pddl_terms.specs.declared.files.Domain.{Domain}
use Rattle.pddl_terms.specs.declared.files.Problem.{Problem}
use Rattle.pddl_terms.specs.declared.files.ActionBody.TheVariants as body
use Rattle.pddl_terms.specs.declared.trees.Call.TheVariants as call
use Rattle.pddl_terms.specs.declared.trees.CondTree.TheVariants as cond
use Rattle.pddl_terms.specs.declared.files.Declared.TheVariants as declared
use Rattle.pddl_terms.specs.declared.trees.EffTree.TheVariants as eff
use Rattle.pddl_terms.specs.declared.trees.GoalTree.TheVariants as goal
use Rattle.pddl_terms.specs.declared.files.InitEntry.TheVariants as init
use Rattle.pddl_terms.specs.declared.trees.Side.TheVariants as side
use Rattle.pddl_terms.specs.declared.trees.TypeName.TheVariants as sort
use Rattle.pddl_terms.specs.declared.trees.Term.TheVariants as term
use Rattle.grounder.specs.ExampleWords.{atom, goal_of, group, kept_arguments, name, plain_domain, plain_problem}

-- The last parameter varies fastest.
-- (define (domain d) (:predicates (p ?x ?y)) (:action go :parameters (?x ?y) :effect (p ?x ?y)))
-- (define (problem e) (:domain d) (:objects a b) (:init ) (:goal (and)) )
abbrev pub first_parameter_slowest_d : Domain
first_parameter_slowest_d = record plain_domain {
  predicates =
      declared.Named 0 (name 0 (codes "p"))
      (group (name 0 (codes "?x") ∷ name 0 (codes "?y") ∷ []) sort.Object ∷ [])
      ∷ [];
  actions =
      (record {
        at = 0;
        name = name 0 (codes "go");
        parameters = group (name 0 (codes "?x") ∷ name 0 (codes "?y") ∷ []) sort.Object ∷ [];
        body = body.Instant None
            (Some
            (eff.Add
            (atom 0 (name 0 (codes "p"))
            (term.Variable (name 0 (codes "?x")) ∷ term.Variable (name 0 (codes "?y")) ∷ []))));
      })
      ∷ [];
}

abbrev pub first_parameter_slowest_p : Problem
first_parameter_slowest_p = plain_problem

-- Objects are the constants, then the problem's objects; a static literal that fails drops a binding.
-- (define (domain d) (:constants c) (:predicates (q ?x) (p ?x)) (:action go :parameters (?x) :precondition (q ?x)
-- :effect (p ?x)))
-- (define (problem e) (:domain d) (:objects a b) (:init (q b) (q c)) (:goal (and)) )
abbrev pub constants_first_d : Domain
constants_first_d = record plain_domain {
  constants = group (name 0 (codes "c") ∷ []) sort.Object ∷ [];
  predicates =
      declared.Named 0 (name 0 (codes "q")) (group (name 0 (codes "?x") ∷ []) sort.Object ∷ [])
      ∷ declared.Named 0 (name 0 (codes "p")) (group (name 0 (codes "?x") ∷ []) sort.Object ∷ [])
      ∷ [];
  actions =
      (record {
        at = 0;
        name = name 0 (codes "go");
        parameters = group (name 0 (codes "?x") ∷ []) sort.Object ∷ [];
        body = body.Instant
            (Some (cond.Atom (atom 0 (name 0 (codes "q")) (term.Variable (name 0 (codes "?x")) ∷ []))))
            (Some (eff.Add (atom 0 (name 0 (codes "p")) (term.Variable (name 0 (codes "?x")) ∷ []))));
      })
      ∷ [];
}

abbrev pub constants_first_p : Problem
constants_first_p = record plain_problem {
  init =
      init.Holds (atom 0 (name 0 (codes "q")) (term.Object (name 0 (codes "b")) ∷ []))
      ∷ init.Holds (atom 0 (name 0 (codes "q")) (term.Object (name 0 (codes "c")) ∷ []))
      ∷ [];
}

-- A negated static literal holds where the atom isn't in the first state; an untimed `not` there changes nothing.
-- (define (domain d) (:predicates (q ?x) (p)) (:action go :parameters (?x) :precondition (not (q ?x)) :effect (p)))
-- (define (problem e) (:domain d) (:objects a b) (:init (q a) (not (q a)) (not (q b))) (:goal (and)) )
abbrev pub static_negated_d : Domain
static_negated_d = record plain_domain {
  predicates =
      declared.Named 0 (name 0 (codes "q")) (group (name 0 (codes "?x") ∷ []) sort.Object ∷ [])
      ∷ declared.Named 0 (name 0 (codes "p")) []
      ∷ [];
  actions =
      (record {
        at = 0;
        name = name 0 (codes "go");
        parameters = group (name 0 (codes "?x") ∷ []) sort.Object ∷ [];
        body = body.Instant
            (Some (cond.Not 0 (cond.Atom (atom 0 (name 0 (codes "q")) (term.Variable (name 0 (codes "?x")) ∷ [])))))
            (Some (eff.Add (atom 0 (name 0 (codes "p")) [])));
      })
      ∷ [];
}

abbrev pub static_negated_p : Problem
static_negated_p = record plain_problem {
  init =
      init.Holds (atom 0 (name 0 (codes "q")) (term.Object (name 0 (codes "a")) ∷ []))
      ∷ init.Not 0 (call.Named (atom 0 (name 0 (codes "q")) (term.Object (name 0 (codes "a")) ∷ [])))
      ∷ init.Not 0 (call.Named (atom 0 (name 0 (codes "q")) (term.Object (name 0 (codes "b")) ∷ [])))
      ∷ [];
}

-- Types may form a ring; an object of one fits each of them, and an object of any type fits a parameter without a
-- type.
-- (define (domain d) (:types t - u u - v v - t w) (:predicates (p ?x - v)) (:action go :parameters (?x - v) :effect
-- (p ?x)) (:action to :parameters (?x)))
-- (define (problem e) (:domain d) (:objects a - t b - w k - u) (:init ) (:goal (and)) )
abbrev pub ring_of_types_d : Domain
ring_of_types_d = record plain_domain {
  types =
      group (name 0 (codes "t") ∷ []) (sort.Named (name 0 (codes "u")))
      ∷ group (name 0 (codes "u") ∷ []) (sort.Named (name 0 (codes "v")))
      ∷ group (name 0 (codes "v") ∷ []) (sort.Named (name 0 (codes "t")))
      ∷ group (name 0 (codes "w") ∷ []) sort.Object
      ∷ [];
  predicates =
      declared.Named 0 (name 0 (codes "p"))
      (group (name 0 (codes "?x") ∷ []) (sort.Named (name 0 (codes "v"))) ∷ [])
      ∷ [];
  actions =
      (record {
        at = 0;
        name = name 0 (codes "go");
        parameters = group (name 0 (codes "?x") ∷ []) (sort.Named (name 0 (codes "v"))) ∷ [];
        body = body.Instant None
            (Some (eff.Add (atom 0 (name 0 (codes "p")) (term.Variable (name 0 (codes "?x")) ∷ []))));
      })
      ∷ (record {
        at = 0;
        name = name 0 (codes "to");
        parameters = group (name 0 (codes "?x") ∷ []) sort.Object ∷ [];
        body = body.Instant None None;
      })
      ∷ [];
}

abbrev pub ring_of_types_p : Problem
ring_of_types_p = record plain_problem {
  objects =
      group (name 0 (codes "a") ∷ []) (sort.Named (name 0 (codes "t")))
      ∷ group (name 0 (codes "b") ∷ []) (sort.Named (name 0 (codes "w")))
      ∷ group (name 0 (codes "k") ∷ []) (sort.Named (name 0 (codes "u")))
      ∷ [];
}

-- An inner variable hides an outer one of its name.
-- (define (domain d) (:predicates (p ?x)) (:action go :parameters (?x) :effect (p ?x)))
-- (define (problem e) (:domain d) (:objects a b) (:init ) (:goal (forall (?x) (and (p ?x) (forall (?x) (p ?x))))) )
abbrev pub hidden_variable_d : Domain
hidden_variable_d = record plain_domain {
  predicates = declared.Named 0 (name 0 (codes "p")) (group (name 0 (codes "?x") ∷ []) sort.Object ∷ []) ∷ [];
  actions =
      (record {
        at = 0;
        name = name 0 (codes "go");
        parameters = group (name 0 (codes "?x") ∷ []) sort.Object ∷ [];
        body = body.Instant None
            (Some (eff.Add (atom 0 (name 0 (codes "p")) (term.Variable (name 0 (codes "?x")) ∷ []))));
      })
      ∷ [];
}

abbrev pub hidden_variable_p : Problem
hidden_variable_p = record plain_problem {
  goal = goal.Forall 0 (group (name 0 (codes "?x") ∷ []) sort.Object ∷ [])
      (goal.And 0
      (goal.Condition (cond.Atom (atom 0 (name 0 (codes "p")) (term.Variable (name 0 (codes "?x")) ∷ [])))
      ∷ goal.Forall 0 (group (name 0 (codes "?x") ∷ []) sort.Object ∷ [])
      (goal.Condition (cond.Atom (atom 0 (name 0 (codes "p")) (term.Variable (name 0 (codes "?x")) ∷ []))))
      ∷ []));
}

-- An equality of terms is a static condition, negated or not.
-- (define (domain d) (:predicates (p ?x ?y)) (:action go :parameters (?x ?y) :precondition (not (= ?x ?y)) :effect (p
-- ?x ?y)))
-- (define (problem e) (:domain d) (:objects a b) (:init ) (:goal (and)) )
abbrev pub equal_objects_dropped_d : Domain
equal_objects_dropped_d = record plain_domain {
  predicates =
      declared.Named 0 (name 0 (codes "p"))
      (group (name 0 (codes "?x") ∷ name 0 (codes "?y") ∷ []) sort.Object ∷ [])
      ∷ [];
  actions =
      (record {
        at = 0;
        name = name 0 (codes "go");
        parameters = group (name 0 (codes "?x") ∷ name 0 (codes "?y") ∷ []) sort.Object ∷ [];
        body = body.Instant
            (Some
            (cond.Not 0 (cond.Equal 0 (side.Variable (name 0 (codes "?x"))) (side.Variable (name 0 (codes "?y"))))))
            (Some
            (eff.Add
            (atom 0 (name 0 (codes "p"))
            (term.Variable (name 0 (codes "?x")) ∷ term.Variable (name 0 (codes "?y")) ∷ []))));
      })
      ∷ [];
}

abbrev pub equal_objects_dropped_p : Problem
equal_objects_dropped_p = plain_problem

pub record BindingsComeOut : Type 0 where
  -- The last parameter varies fastest.
  pub first_parameter_slowest : kept_arguments first_parameter_slowest_d first_parameter_slowest_p
      ≡ (0 ∷ 0 ∷ []) ∷ (0 ∷ 1 ∷ []) ∷ (1 ∷ 0 ∷ []) ∷ (1 ∷ 1 ∷ []) ∷ []
  -- Objects are the constants, then the problem's objects; a static literal that fails drops a binding.
  pub constants_first : kept_arguments constants_first_d constants_first_p ≡ (0 ∷ []) ∷ (2 ∷ []) ∷ []
  -- A negated static literal holds where the atom isn't in the first state; an untimed `not` there changes nothing.
  pub static_negated : kept_arguments static_negated_d static_negated_p ≡ (1 ∷ []) ∷ []
  -- Types may form a ring; an object of one fits each of them, and an object of any type fits a parameter without a
  -- type.
  pub ring_of_types : kept_arguments ring_of_types_d ring_of_types_p
      ≡ (0 ∷ []) ∷ (2 ∷ []) ∷ (0 ∷ []) ∷ (1 ∷ []) ∷ (2 ∷ []) ∷ []
  -- An inner variable hides an outer one of its name.
  pub hidden_variable : (goal_of hidden_variable_d hidden_variable_p).literals
      ≡ record { fact = 0; holds = true } ∷ record { fact = 0; holds = true } ∷ record { fact = 1; holds = true } ∷ record { fact = 1; holds = true } ∷ record { fact = 0; holds = true } ∷ record { fact = 1; holds = true } ∷ []
  -- An equality of terms is a static condition, negated or not.
  pub equal_objects_dropped : kept_arguments equal_objects_dropped_d equal_objects_dropped_p
      ≡ (0 ∷ 1 ∷ []) ∷ (1 ∷ 0 ∷ []) ∷ []
