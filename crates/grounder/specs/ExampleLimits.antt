-- Believed: worked examples: what is counted, and the limits.
use Rattle.std.specs.Prelude.{◌≡◌, [], ◌∷◌, true, false, pos, Some, None, codes, map}
use Rattle.rational.specs.Rational.{whole}
use Rattle.pddl_terms.specs.declared.files.Domain.{Domain}
use Rattle.pddl_terms.specs.declared.files.Problem.{Problem}
use Rattle.pddl_terms.specs.declared.files.ActionDef.{ActionDef}
use Rattle.pddl_terms.specs.declared.files.ActionBody.TheVariants as body
use Rattle.pddl_terms.specs.declared.trees.ConForm.TheVariants as con
use Rattle.pddl_terms.specs.declared.trees.CondTree.TheVariants as cond
use Rattle.pddl_terms.specs.declared.files.Declared.TheVariants as declared
use Rattle.pddl_terms.specs.declared.trees.ExprTree.TheVariants as expr
use Rattle.pddl_terms.specs.declared.trees.FactForm.TheVariants as form
use Rattle.pddl_terms.specs.declared.trees.GoalTree.TheVariants as goal
use Rattle.grounder.specs.declared.faults.LimitName.TheVariants as limit
use Rattle.pddl_terms.specs.declared.trees.Side.TheVariants as side
use Rattle.pddl_terms.specs.declared.trees.SoftTree.TheVariants as soft
use Rattle.pddl_terms.specs.declared.trees.TypeName.TheVariants as sort
use Rattle.pddl_terms.specs.declared.trees.Trajectory.TheVariants as trail
use Rattle.ground_world.specs.Counts.{binding_limit, bindings_fit, body_count, fit_limits, goal_count, part_limit}
use Rattle.ground_world.specs.FirstState.{world}
use Rattle.grounder.specs.Answer.{Counted, limits}
use Rattle.grounder.specs.ExampleWords.{atom, group, name, plain_domain, plain_problem}
use Rattle.grounder.specs.Task.{ground_task}

-- The limits in their order.
-- (define (domain d) (:predicates (p)))
-- (define (problem e) (:domain d) (:objects a b) (:init ) (:goal (and)) )
abbrev pub limit_numbers_d : Domain
limit_numbers_d = record plain_domain { predicates = declared.Named 0 (name 0 (codes "p")) [] ∷ [] }

abbrev pub limit_numbers_p : Problem
limit_numbers_p = plain_problem

-- Constraints and soft terms are counted together.
-- (define (domain d) (:predicates (p)) (:constraints (sometime (p))))
-- (define (problem e) (:domain d) (:objects a b) (:init ) (:goal (preference ())) (:constraints (preference (always
-- (p)))))
abbrev pub terms_together_d : Domain
terms_together_d = record plain_domain {
  predicates = declared.Named 0 (name 0 (codes "p")) [] ∷ [];
  constraints = Some (con.Hard (trail.Sometime 0 (form.Atom (atom 0 (name 0 (codes "p")) []))));
}

abbrev pub terms_together_p : Problem
terms_together_p = record plain_problem {
  goal = goal.Preference 0 None (soft.Formula (form.Empty 0));
  constraints = Some (con.Preference 0 None (trail.Always 0 (form.Atom (atom 0 (name 0 (codes "p")) []))));
}

-- A numeric equality counts 2, `( )` and an empty conjunction 1, a missing condition 0; a part of the goal with
-- preferences alone 0.
-- (define (domain d) (:predicates (p)) (:functions (f)) (:action a1 :precondition (and (= (f) 1) () (and) (not (p))))
-- (:action a2) (:action a3 :precondition (forall (?x ?y) (p))))
-- (define (problem e) (:domain d) (:objects a b) (:init ) (:goal (and (preference (p)) (and (preference (p))) (p))) )
abbrev pub counts_d : Domain
counts_d = record plain_domain {
  predicates = declared.Named 0 (name 0 (codes "p")) [] ∷ [];
  functions = declared.Named 0 (name 0 (codes "f")) [] ∷ [];
  actions =
      (record {
        at = 0;
        name = name 0 (codes "a1");
        parameters = [];
        body = body.Instant
            (Some
            (cond.And 0
            (cond.Equal 0 (side.Expression (expr.Fluent (atom 0 (name 0 (codes "f")) [])))
            (side.Expression (expr.Number 0 (whole (pos 1))))
            ∷ cond.Empty 0
            ∷ cond.And 0 []
            ∷ cond.Not 0 (cond.Atom (atom 0 (name 0 (codes "p")) []))
            ∷ [])))
            None;
      })
      ∷ (record { at = 0; name = name 0 (codes "a2"); parameters = []; body = body.Instant None None })
      ∷ (record {
        at = 0;
        name = name 0 (codes "a3");
        parameters = [];
        body = body.Instant
            (Some
            (cond.Forall 0 (group (name 0 (codes "?x") ∷ name 0 (codes "?y") ∷ []) sort.Object ∷ [])
            (cond.Atom (atom 0 (name 0 (codes "p")) []))))
            None;
      })
      ∷ [];
}

abbrev pub counts_p : Problem
counts_p = record plain_problem {
  goal = goal.And 0
      (goal.Preference 0 None (soft.Formula (form.Atom (atom 0 (name 0 (codes "p")) [])))
      ∷ goal.And 0 (goal.Preference 0 None (soft.Formula (form.Atom (atom 0 (name 0 (codes "p")) []))) ∷ [])
      ∷ goal.Condition (cond.Atom (atom 0 (name 0 (codes "p")) []))
      ∷ []);
}

-- Without an outer binding nothing is counted; a `forall` without objects counts 1.
-- (define (domain d) (:types t) (:predicates (p)) (:action go :precondition (forall (?x - t) (p))))
-- (define (problem e) (:domain d) (:objects a) (:init ) (:goal (and)) )
abbrev pub no_outer_binding_d : Domain
no_outer_binding_d = record plain_domain {
  types = group (name 0 (codes "t") ∷ []) sort.Object ∷ [];
  predicates = declared.Named 0 (name 0 (codes "p")) [] ∷ [];
  actions =
      (record {
        at = 0;
        name = name 0 (codes "go");
        parameters = [];
        body = body.Instant
            (Some
            (cond.Forall 0 (group (name 0 (codes "?x") ∷ []) (sort.Named (name 0 (codes "t"))) ∷ [])
            (cond.Atom (atom 0 (name 0 (codes "p")) []))))
            None;
      })
      ∷ [];
}

abbrev pub no_outer_binding_p : Problem
no_outer_binding_p = record plain_problem { objects = group (name 0 (codes "a") ∷ []) sort.Object ∷ [] }

pub record LimitsComeOut : Type 0 where
  -- The limits in their order.
  pub limit_names : map (λ (c : Counted). c.name) (limits (ground_task limit_numbers_d limit_numbers_p))
      ≡ limit.Facts ∷ limit.Fluents ∷ limit.Actions ∷ limit.Terms ∷ limit.Timed ∷ limit.Watches ∷ limit.Moments ∷ []
  pub limit_numbers : binding_limit ∷ part_limit ∷ map (λ (c : Counted). c.most)
      (limits (ground_task limit_numbers_d limit_numbers_p))
      ≡ 1048576 ∷ 65536 ∷ 16384 ∷ 2048 ∷ 8192 ∷ 512 ∷ 64 ∷ 8 ∷ 96 ∷ []
  -- Constraints and soft terms are counted together.
  pub terms_together : map (λ (c : Counted). c.count) (limits (ground_task terms_together_d terms_together_p))
      ≡ 1 ∷ 0 ∷ 0 ∷ 3 ∷ 0 ∷ 0 ∷ 0 ∷ []
  -- A numeric equality counts 2, `( )` and an empty conjunction 1, a missing condition 0; a part of the goal with
  -- preferences alone 0.
  pub counts_of_actions : map (λ (a : ActionDef). body_count (world counts_d counts_p) a.body) counts_d.actions
      ≡ 5 ∷ 0 ∷ 4 ∷ []
  pub count_of_goal : goal_count (world counts_d counts_p) counts_p.goal ≡ 1
  -- Without an outer binding nothing is counted; a `forall` without objects counts 1.
  pub parts_without_a_binding : map
      (λ (a : ActionDef). body_count (world no_outer_binding_d no_outer_binding_p) a.body) no_outer_binding_d.actions
      ≡ 1 ∷ []
  pub no_outer_binding : bindings_fit (world no_outer_binding_d no_outer_binding_p) no_outer_binding_d
      no_outer_binding_p
      ≡ true
  -- Without an outer binding nothing is counted; with one the limits are reached and not passed.
  pub no_binding_no_parts : fit_limits 0 65537 ≡ true
  pub past_the_parts : fit_limits 1 65537 ≡ false
  pub at_both_limits : fit_limits 1048576 65536 ≡ true
  pub past_the_bindings : fit_limits 1048577 1 ≡ false
