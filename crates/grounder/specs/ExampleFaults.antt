-- Believed: worked examples: which fault is told, and at which place.
use Rattle.std.specs.Prelude.{◌≡◌, [], ◌∷◌, pos, Some, None, codes}
use Rattle.std.specs.List.{flat_map}
use Rattle.rational.specs.Rational.{whole}
use Rattle.pddl_terms.specs.declared.files.Domain.{Domain}
use Rattle.pddl_terms.specs.declared.files.Problem.{Problem}
use Rattle.pddl_terms.specs.declared.files.Aim.TheVariants as aim
use Rattle.pddl_terms.specs.declared.files.ActionBody.TheVariants as body
use Rattle.pddl_terms.specs.declared.trees.Call.TheVariants as call
use Rattle.pddl_terms.specs.declared.trees.ChangeKind.TheVariants as change
use Rattle.pddl_terms.specs.declared.trees.CondTree.TheVariants as cond
use Rattle.pddl_terms.specs.declared.files.Declared.TheVariants as declared
use Rattle.pddl_terms.specs.declared.trees.EffTree.TheVariants as eff
use Rattle.pddl_terms.specs.declared.trees.ExprTree.TheVariants as expr
use Rattle.grounder.specs.declared.faults.GroundFault.TheVariants as fault
use Rattle.pddl_terms.specs.declared.trees.GoalTree.TheVariants as goal
use Rattle.pddl_terms.specs.declared.files.InitEntry.TheVariants as init
use Rattle.pddl_terms.specs.declared.trees.Comparison.TheVariants as mark
use Rattle.pddl_terms.specs.declared.trees.SoftTree.TheVariants as soft
use Rattle.ground_world.specs.FirstState.{world}
use Rattle.grounder.specs.Answer.{ground_fault, units, wide_in}
use Rattle.grounder.specs.ExampleWords.{atom, kept_arguments, name, plain_domain, plain_problem}
use Rattle.grounder.specs.Instances.{wide_in_actions}

-- An undefined reckoning counts before a zero divisor, also in a binding that is dropped; behind it none counts.
-- (define (domain d) (:functions (f) (z)) (:action go :precondition (>= (* 100000000000000000 100000000000000000
-- 100000000000000000) 0) :effect (increase (f) (/ 1 (z)))) (:action to :precondition (>= (/ 1 (z)) 0) :effect
-- (increase (f) (* 100000000000000000 100000000000000000 100000000000000000))))
-- (define (problem e) (:domain d) (:objects a b) (:init (= (f) 0) (= (z) 0)) (:goal (and)) )
abbrev pub wide_before_zero_d : Domain
wide_before_zero_d = record plain_domain {
  functions = declared.Named 31 (name 32 (codes "f")) [] ∷ declared.Named 35 (name 36 (codes "z")) [] ∷ [];
  actions =
      (record {
        at = 40;
        name = name 49 (codes "go");
        parameters = [];
        body = body.Instant
            (Some
            (cond.Compare 66 mark.AtLeast
            (expr.Product 70
            (expr.Number 73 (whole (pos 100000000000000000))
            ∷ expr.Number 92 (whole (pos 100000000000000000))
            ∷ expr.Number 111 (whole (pos 100000000000000000))
            ∷ []))
            (expr.Number 131 (whole (pos 0)))))
            (Some
            (eff.Change 142 change.Increase (call.Named (atom 152 (name 153 (codes "f")) []))
            (expr.Quotient 156 (expr.Number 159 (whole (pos 1)))
            (expr.Fluent (atom 161 (name 162 (codes "z")) [])))));
      })
      ∷ (record {
        at = 168;
        name = name 177 (codes "to");
        parameters = [];
        body = body.Instant
            (Some
            (cond.Compare 194 mark.AtLeast
            (expr.Quotient 198 (expr.Number 201 (whole (pos 1)))
            (expr.Fluent (atom 203 (name 204 (codes "z")) [])))
            (expr.Number 208 (whole (pos 0)))))
            (Some
            (eff.Change 219 change.Increase (call.Named (atom 229 (name 230 (codes "f")) []))
            (expr.Product 233
            (expr.Number 236 (whole (pos 100000000000000000))
            ∷ expr.Number 255 (whole (pos 100000000000000000))
            ∷ expr.Number 274 (whole (pos 100000000000000000))
            ∷ []))));
      })
      ∷ [];
}

abbrev pub wide_before_zero_p : Problem
wide_before_zero_p = record plain_problem {
  init =
      init.Value 54 (call.Named (atom 57 (name 58 (codes "f")) [])) (whole (pos 0))
      ∷ init.Value 64 (call.Named (atom 67 (name 68 (codes "z")) [])) (whole (pos 0))
      ∷ [];
}

-- The place is that of the list whose operands are defined.
-- (define (domain d) (:predicates (p)))
-- (define (problem e) (:domain d) (:objects a b) (:init ) (:goal (>= (+ 1 (* 100000000000000000 100000000000000000
-- 100000000000000000)) 0)) )
abbrev pub wide_at_the_list_d : Domain
wide_at_the_list_d = record plain_domain { predicates = declared.Named 32 (name 33 (codes "p")) [] ∷ [] }

abbrev pub wide_at_the_list_p : Problem
wide_at_the_list_p = record plain_problem {
  goal = goal.Condition
      (cond.Compare 63 mark.AtLeast
      (expr.Sum 67
      (expr.Number 70 (whole (pos 1))
      ∷ expr.Product 72
      (expr.Number 75 (whole (pos 100000000000000000))
      ∷ expr.Number 94 (whole (pos 100000000000000000))
      ∷ expr.Number 113 (whole (pos 100000000000000000))
      ∷ [])
      ∷ []))
      (expr.Number 134 (whole (pos 0))));
}

-- An undefined reckoning is told before a missing value, also where it stands behind it.
-- (define (domain d) (:predicates (p)) (:functions (f)))
-- (define (problem e) (:domain d) (:objects a b) (:init ) (:goal (and (preference (>= (f) 0)) (preference (>= (*
-- 100000000000000000 100000000000000000 100000000000000000) 0)))) )
abbrev pub wide_before_no_value_d : Domain
wide_before_no_value_d = record plain_domain {
  predicates = declared.Named 32 (name 33 (codes "p")) [] ∷ [];
  functions = declared.Named 49 (name 50 (codes "f")) [] ∷ [];
}

abbrev pub wide_before_no_value_p : Problem
wide_before_no_value_p = record plain_problem {
  goal = goal.And 63
      (goal.Preference 68 None
      (soft.Comparison
      (cond.Compare 80 mark.AtLeast (expr.Fluent (atom 84 (name 85 (codes "f")) []))
      (expr.Number 88 (whole (pos 0)))))
      ∷ goal.Preference 92 None
      (soft.Comparison
      (cond.Compare 104 mark.AtLeast
      (expr.Product 108
      (expr.Number 111 (whole (pos 100000000000000000))
      ∷ expr.Number 130 (whole (pos 100000000000000000))
      ∷ expr.Number 149 (whole (pos 100000000000000000))
      ∷ []))
      (expr.Number 169 (whole (pos 0)))))
      ∷ []);
}

-- Of several places the least is told, whatever the order of the reckoning.
-- (define (domain d) (:predicates (p)) (:functions (f) (g)))
-- (define (problem e) (:domain d) (:objects a b) (:init ) (:requirements) (:goal (preference (>= (f) 0))) (:metric
-- minimize (+ (total-time) (g))))
abbrev pub least_place_d : Domain
least_place_d = record plain_domain {
  predicates = declared.Named 32 (name 33 (codes "p")) [] ∷ [];
  functions = declared.Named 49 (name 50 (codes "f")) [] ∷ declared.Named 53 (name 54 (codes "g")) [] ∷ [];
}

abbrev pub least_place_p : Problem
least_place_p = record plain_problem {
  goal = goal.Preference 79 None
      (soft.Comparison
      (cond.Compare 91 mark.AtLeast (expr.Fluent (atom 95 (name 96 (codes "f")) []))
      (expr.Number 99 (whole (pos 0)))));
  metric = Some
      (record {
        aim = aim.Minimize;
        expression = expr.Sum 122 (expr.TotalTime 125 ∷ expr.Fluent (atom 138 (name 139 (codes "g")) []) ∷ []);
      });
}

-- In a unit with a fluent without a value nothing is undefined.
-- (define (domain d) (:predicates (p)) (:functions (f)))
-- (define (problem e) (:domain d) (:objects a b) (:init ) (:goal (and (>= (f) 0) (>= (* 100000000000000000
-- 100000000000000000 100000000000000000) 0))) )
abbrev pub unvalued_unit_reckons_nothing_d : Domain
unvalued_unit_reckons_nothing_d = record plain_domain {
  predicates = declared.Named 32 (name 33 (codes "p")) [] ∷ [];
  functions = declared.Named 49 (name 50 (codes "f")) [] ∷ [];
}

abbrev pub unvalued_unit_reckons_nothing_p : Problem
unvalued_unit_reckons_nothing_p = record plain_problem {
  goal = goal.And 63
      (goal.Condition
      (cond.Compare 68 mark.AtLeast (expr.Fluent (atom 72 (name 73 (codes "f")) []))
      (expr.Number 76 (whole (pos 0))))
      ∷ goal.Condition
      (cond.Compare 79 mark.AtLeast
      (expr.Product 83
      (expr.Number 86 (whole (pos 100000000000000000))
      ∷ expr.Number 105 (whole (pos 100000000000000000))
      ∷ expr.Number 124 (whole (pos 100000000000000000))
      ∷ []))
      (expr.Number 144 (whole (pos 0))))
      ∷ []);
}

pub record FaultsComeOut : Type 0 where
  -- An undefined reckoning counts before a zero divisor, also in a binding that is dropped; behind it none counts.
  pub wide_before_zero : wide_in_actions (world wide_before_zero_d wide_before_zero_p) wide_before_zero_d.actions
      ≡ 70 ∷ []
  pub zero_divisors_dropped : kept_arguments wide_before_zero_d wide_before_zero_p ≡ []
  -- The place is that of the list whose operands are defined.
  pub wide_at_the_list : flat_map (wide_in (world wide_at_the_list_d wide_at_the_list_p))
      (units (world wide_at_the_list_d wide_at_the_list_p) wide_at_the_list_d wide_at_the_list_p)
      ≡ 72 ∷ []
  -- An undefined reckoning is told before a missing value, also where it stands behind it.
  pub wide_before_no_value : ground_fault wide_before_no_value_d wide_before_no_value_p ≡ Some (fault.Wide 108)
  -- Of several places the least is told, whatever the order of the reckoning.
  pub least_place : ground_fault least_place_d least_place_p ≡ Some (fault.NoValue 95)
  -- In a unit with a fluent without a value nothing is undefined.
  pub unvalued_unit_reckons_nothing : flat_map
      (wide_in (world unvalued_unit_reckons_nothing_d unvalued_unit_reckons_nothing_p)) (units (world unvalued_unit_reckons_nothing_d unvalued_unit_reckons_nothing_p) unvalued_unit_reckons_nothing_d unvalued_unit_reckons_nothing_p)
      ≡ []
