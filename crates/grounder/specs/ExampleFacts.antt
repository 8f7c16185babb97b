-- Believed: worked examples: which facts and fluents there are, and in which order.
use Rattle.std.specs.Prelude.{◌≡◌, [], ◌∷◌, true, pos, Some, None, codes, map}
use Rattle.rational.specs.Rational.{whole}
use Rattle.pddl_terms.specs.declared.files.Domain.{Domain}
use Rattle.pddl_terms.specs.declared.files.Problem.{Problem}
use Rattle.pddl_terms.specs.declared.files.ActionBody.TheVariants as body
use Rattle.pddl_terms.specs.declared.trees.Call.TheVariants as call
use Rattle.pddl_terms.specs.declared.trees.ChangeKind.TheVariants as change
use Rattle.pddl_terms.specs.declared.trees.ConForm.TheVariants as con
use Rattle.pddl_terms.specs.declared.trees.CondTree.TheVariants as cond
use Rattle.pddl_terms.specs.declared.files.TimeCost.TheVariants as cost
use Rattle.pddl_terms.specs.declared.files.CostCurve.TheVariants as curve
use Rattle.pddl_terms.specs.declared.files.Declared.TheVariants as declared
use Rattle.pddl_terms.specs.declared.trees.EffTree.TheVariants as eff
use Rattle.pddl_terms.specs.declared.trees.ExprTree.TheVariants as expr
use Rattle.task_types.specs.declared.formulas.FactTree.TheVariants as fact
use Rattle.pddl_terms.specs.declared.trees.FactForm.TheVariants as form
use Rattle.pddl_terms.specs.declared.trees.GoalTree.TheVariants as goal
use Rattle.pddl_terms.specs.declared.files.InitEntry.TheVariants as init
use Rattle.pddl_terms.specs.declared.trees.SoftTree.TheVariants as soft
use Rattle.pddl_terms.specs.declared.trees.TypeName.TheVariants as sort
use Rattle.pddl_terms.specs.declared.trees.Term.TheVariants as term
use Rattle.pddl_terms.specs.declared.trees.Trajectory.TheVariants as trail
use Rattle.grounder.specs.ExampleWords.{atom, facts, fluents, formula_of, group, name, plain_domain, plain_problem, softs}

-- A predicate of a timed literal isn't static: its bindings are facts; one that nothing changes has none.
-- (define (domain d) (:predicates (s ?x) (q ?x) (p ?x)) (:action go :parameters (?x) :precondition (not (s ?x))
-- :effect (p ?x)))
-- (define (problem e) (:domain d) (:objects a b) (:init (at 5 (q b))) (:goal (and)) )
abbrev pub timed_predicate_changes_d : Domain
timed_predicate_changes_d = record plain_domain {
  predicates =
      declared.Named 0 (name 0 (codes "s")) (group (name 0 (codes "?x") ∷ []) sort.Object ∷ [])
      ∷ declared.Named 0 (name 0 (codes "q")) (group (name 0 (codes "?x") ∷ []) sort.Object ∷ [])
      ∷ declared.Named 0 (name 0 (codes "p")) (group (name 0 (codes "?x") ∷ []) sort.Object ∷ [])
      ∷ [];
  actions =
      (record {
        at = 0;
        name = name 0 (codes "go");
        parameters = group (name 0 (codes "?x") ∷ []) sort.Object ∷ [];
        body = body.Instant
            (Some (cond.Not 0 (cond.Atom (atom 0 (name 0 (codes "s")) (term.Variable (name 0 (codes "?x")) ∷ [])))))
            (Some (eff.Add (atom 0 (name 0 (codes "p")) (term.Variable (name 0 (codes "?x")) ∷ []))));
      })
      ∷ [];
}

abbrev pub timed_predicate_changes_p : Problem
timed_predicate_changes_p = record plain_problem {
  init =
      init.Timed
      (record {
        at = 0;
        moment_at = 0;
        moment = whole (pos 5);
        holds = true;
        atom = call.Named (atom 0 (name 0 (codes "q")) (term.Object (name 0 (codes "b")) ∷ []));
      })
      ∷ [];
}

-- Further facts come as the goal, the domain's constraints, the problem's and the time costs first mention them.
-- (define (domain d) (:predicates (s) (q) (r) (u)) (:constraints (sometime (q))))
-- (define (problem e) (:domain d) (:objects a b) (:init ) (:goal (s)) (:constraints (sometime (or (s) (r))))
-- (:time-costs (l (imply (q) (u)) 0 1 1)))
abbrev pub facts_by_mention_d : Domain
facts_by_mention_d = record plain_domain {
  predicates =
      declared.Named 0 (name 0 (codes "s")) []
      ∷ declared.Named 0 (name 0 (codes "q")) []
      ∷ declared.Named 0 (name 0 (codes "r")) []
      ∷ declared.Named 0 (name 0 (codes "u")) []
      ∷ [];
  constraints = Some (con.Hard (trail.Sometime 0 (form.Atom (atom 0 (name 0 (codes "q")) []))));
}

abbrev pub facts_by_mention_p : Problem
facts_by_mention_p = record plain_problem {
  goal = goal.Condition (cond.Atom (atom 0 (name 0 (codes "s")) []));
  constraints = Some
      (con.Hard
      (trail.Sometime 0
      (form.Or 0 (form.Atom (atom 0 (name 0 (codes "s")) []) ∷ form.Atom (atom 0 (name 0 (codes "r")) []) ∷ []))));
  time_costs =
      cost.Named 0 (name 0 (codes "l"))
      (form.Imply 0 (form.Atom (atom 0 (name 0 (codes "q")) [])) (form.Atom (atom 0 (name 0 (codes "u")) [])))
      (curve.Three (whole (pos 0)) (whole (pos 1)) (whole (pos 1)))
      ∷ [];
}

-- Below one `forall` further facts come binding by binding, the soft terms place by place.
-- (define (domain d) (:predicates (s ?x) (q ?x)))
-- (define (problem e) (:domain d) (:objects a b) (:init ) (:goal (forall (?x) (and (preference m (s ?x)) (preference
-- n (q ?x))))) )
abbrev pub facts_binding_by_binding_d : Domain
facts_binding_by_binding_d = record plain_domain {
  predicates =
      declared.Named 0 (name 0 (codes "s")) (group (name 0 (codes "?x") ∷ []) sort.Object ∷ [])
      ∷ declared.Named 0 (name 0 (codes "q")) (group (name 0 (codes "?x") ∷ []) sort.Object ∷ [])
      ∷ [];
}

abbrev pub facts_binding_by_binding_p : Problem
facts_binding_by_binding_p = record plain_problem {
  goal = goal.Forall 0 (group (name 0 (codes "?x") ∷ []) sort.Object ∷ [])
      (goal.And 0
      (goal.Preference 0 (Some (name 0 (codes "m")))
      (soft.Formula (form.Atom (atom 0 (name 0 (codes "s")) (term.Variable (name 0 (codes "?x")) ∷ []))))
      ∷ goal.Preference 0 (Some (name 0 (codes "n")))
      (soft.Formula (form.Atom (atom 0 (name 0 (codes "q")) (term.Variable (name 0 (codes "?x")) ∷ []))))
      ∷ []));
}

-- Fluents are the bindings with a value of the functions that change, in order of declaration; a static function has
-- none.
-- (define (domain d) (:constants a) (:functions (s) (f ?x) (g)) (:action go :effect (and (increase (g) 1) (increase
-- (f a) (s)))))
-- (define (problem e) (:domain d) (:objects b k) (:init (= (g) 0) (= (f b) 1) (= (s) 3) (= (f a) 2)) (:goal (and)) )
abbrev pub fluents_in_order_d : Domain
fluents_in_order_d = record plain_domain {
  constants = group (name 0 (codes "a") ∷ []) sort.Object ∷ [];
  functions =
      declared.Named 0 (name 0 (codes "s")) []
      ∷ declared.Named 0 (name 0 (codes "f")) (group (name 0 (codes "?x") ∷ []) sort.Object ∷ [])
      ∷ declared.Named 0 (name 0 (codes "g")) []
      ∷ [];
  actions =
      (record {
        at = 0;
        name = name 0 (codes "go");
        parameters = [];
        body = body.Instant None
            (Some
            (eff.And 0
            (eff.Change 0 change.Increase (call.Named (atom 0 (name 0 (codes "g")) []))
            (expr.Number 0 (whole (pos 1)))
            ∷ eff.Change 0 change.Increase
            (call.Named (atom 0 (name 0 (codes "f")) (term.Object (name 0 (codes "a")) ∷ [])))
            (expr.Fluent (atom 0 (name 0 (codes "s")) []))
            ∷ [])));
      })
      ∷ [];
}

abbrev pub fluents_in_order_p : Problem
fluents_in_order_p = record plain_problem {
  objects = group (name 0 (codes "b") ∷ name 0 (codes "k") ∷ []) sort.Object ∷ [];
  init =
      init.Value 0 (call.Named (atom 0 (name 0 (codes "g")) [])) (whole (pos 0))
      ∷ init.Value 0 (call.Named (atom 0 (name 0 (codes "f")) (term.Object (name 0 (codes "b")) ∷ [])))
      (whole (pos 1))
      ∷ init.Value 0 (call.Named (atom 0 (name 0 (codes "s")) [])) (whole (pos 3))
      ∷ init.Value 0 (call.Named (atom 0 (name 0 (codes "f")) (term.Object (name 0 (codes "a")) ∷ [])))
      (whole (pos 2))
      ∷ [];
}

pub record FactsComeOut : Type 0 where
  -- A predicate of a timed literal isn't static: its bindings are facts; one that nothing changes has none.
  pub timed_predicate_changes : facts timed_predicate_changes_d timed_predicate_changes_p
      ≡ (1 ∷ 0 ∷ []) ∷ (1 ∷ 1 ∷ []) ∷ (2 ∷ 0 ∷ []) ∷ (2 ∷ 1 ∷ []) ∷ []
  -- Further facts come as the goal, the domain's constraints, the problem's and the time costs first mention them.
  pub facts_by_mention : facts facts_by_mention_d facts_by_mention_p ≡ (0 ∷ []) ∷ (1 ∷ []) ∷ (2 ∷ []) ∷ (3 ∷ []) ∷ []
  -- Below one `forall` further facts come binding by binding, the soft terms place by place.
  pub facts_binding_by_binding : facts facts_binding_by_binding_d facts_binding_by_binding_p
      ≡ (0 ∷ 0 ∷ []) ∷ (1 ∷ 0 ∷ []) ∷ (0 ∷ 1 ∷ []) ∷ (1 ∷ 1 ∷ []) ∷ []
  pub soft_terms_place_by_place : map formula_of (softs facts_binding_by_binding_d facts_binding_by_binding_p)
      ≡ (fact.Is record { fact = 0; holds = true }) ∷ (fact.Is record { fact = 2; holds = true }) ∷ (fact.Is record { fact = 1; holds = true }) ∷ (fact.Is record { fact = 3; holds = true }) ∷ []
  -- Fluents are the bindings with a value of the functions that change, in order of declaration; a static function has
  -- none.
  pub fluents_in_order : fluents fluents_in_order_d fluents_in_order_p ≡ (1 ∷ 0 ∷ []) ∷ (1 ∷ 1 ∷ []) ∷ (2 ∷ []) ∷ []
