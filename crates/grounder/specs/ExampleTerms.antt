-- Believed: worked examples: preferences, constraints, formulas and weights.
use Rattle.std.specs.Prelude.{◌≡◌, [], ◌∷◌, true, pos, negsuc, Some, None, codes, map, length}
use Rattle.std.specs.List.{filter}
use Rattle.rational.specs.Rational.{whole}
use Rattle.pddl_terms.specs.declared.files.Domain.{Domain}
use Rattle.pddl_terms.specs.declared.files.Problem.{Problem}
use Rattle.task_types.specs.declared.constraints.Trail.{Trail}
use Rattle.pddl_terms.specs.declared.files.Aim.TheVariants as aim
use Rattle.pddl_terms.specs.declared.trees.Call.TheVariants as call
use Rattle.pddl_terms.specs.declared.trees.ConForm.TheVariants as con
use Rattle.pddl_terms.specs.declared.trees.CondTree.TheVariants as cond
use Rattle.pddl_terms.specs.declared.files.Declared.TheVariants as declared
use Rattle.pddl_terms.specs.declared.trees.ExprTree.TheVariants as expr
use Rattle.task_types.specs.declared.formulas.FactTree.TheVariants as fact
use Rattle.pddl_terms.specs.declared.trees.FactForm.TheVariants as form
use Rattle.pddl_terms.specs.declared.trees.GoalTree.TheVariants as goal
use Rattle.pddl_terms.specs.declared.files.InitEntry.TheVariants as init
use Rattle.pddl_terms.specs.declared.trees.Comparison.TheVariants as mark
use Rattle.pddl_terms.specs.declared.trees.SoftTree.TheVariants as soft
use Rattle.pddl_terms.specs.declared.trees.TypeName.TheVariants as sort
use Rattle.pddl_terms.specs.declared.trees.Term.TheVariants as term
use Rattle.pddl_terms.specs.declared.trees.Trajectory.TheVariants as trail
use Rattle.grounder.specs.Answer.{is_timed_term}
use Rattle.grounder.specs.ExampleWords.{atom, formula_of, group, hards, name, plain_domain, plain_problem, softs, weight_of}
use Rattle.grounder.specs.Task.{grounding, metric}

-- Instances of a preference go by the `forall`s around it, outer variables first.
-- (define (domain d) (:predicates (p ?x ?y)))
-- (define (problem e) (:domain d) (:objects a b) (:init ) (:goal (forall (?x) (forall (?y) (preference n (p ?x
-- ?y))))) )
abbrev pub nested_foralls_d : Domain
nested_foralls_d = record plain_domain {
  predicates =
      declared.Named 0 (name 0 (codes "p"))
      (group (name 0 (codes "?x") ∷ name 0 (codes "?y") ∷ []) sort.Object ∷ [])
      ∷ [];
}

abbrev pub nested_foralls_p : Problem
nested_foralls_p = record plain_problem {
  goal = goal.Forall 0 (group (name 0 (codes "?x") ∷ []) sort.Object ∷ [])
      (goal.Forall 0 (group (name 0 (codes "?y") ∷ []) sort.Object ∷ [])
      (goal.Preference 0 (Some (name 0 (codes "n")))
      (soft.Formula
      (form.Atom
      (atom 0 (name 0 (codes "p"))
      (term.Variable (name 0 (codes "?x")) ∷ term.Variable (name 0 (codes "?y")) ∷ []))))));
}

-- A maximised metric is negated; an unnamed preference is named `anonymous`; a name without a weight weighs 0.
-- (define (domain d) (:predicates (p)))
-- (define (problem e) (:domain d) (:objects a b) (:init ) (:goal (and (preference (p)) (preference n ()) (preference
-- m ()))) (:metric maximize (- 7 (+ (* 2 (is-violated anonymous)) (is-violated n) (total-time)))))
abbrev pub weights_d : Domain
weights_d = record plain_domain { predicates = declared.Named 0 (name 0 (codes "p")) [] ∷ [] }

abbrev pub weights_p : Problem
weights_p = record plain_problem {
  goal = goal.And 0
      (goal.Preference 0 None (soft.Formula (form.Atom (atom 0 (name 0 (codes "p")) [])))
      ∷ goal.Preference 0 (Some (name 0 (codes "n"))) (soft.Formula (form.Empty 0))
      ∷ goal.Preference 0 (Some (name 0 (codes "m"))) (soft.Formula (form.Empty 0))
      ∷ []);
  metric = Some
      (record {
        aim = aim.Maximize;
        expression = expr.Difference 0 (expr.Number 0 (whole (pos 7)))
            (expr.Sum 0
            (expr.Product 0 (expr.Number 0 (whole (pos 2)) ∷ expr.Violated 0 (name 0 (codes "anonymous")) ∷ [])
            ∷ expr.Violated 0 (name 0 (codes "n"))
            ∷ expr.TotalTime 0
            ∷ []));
      });
}

-- A `within` counts as a timed term in a preference, not as a hard constraint; so does a goal preference with a
-- comparison.
-- (define (domain d) (:predicates (p)) (:functions (f)))
-- (define (problem e) (:domain d) (:objects a b) (:init (= (f) 0)) (:goal (and (preference (>= (f) 0)) (preference
-- (p)))) (:constraints (and (within 1 (p)) (preference (within 2 (p))) (preference (always (p))))))
abbrev pub timed_terms_d : Domain
timed_terms_d = record plain_domain {
  predicates = declared.Named 0 (name 0 (codes "p")) [] ∷ [];
  functions = declared.Named 0 (name 0 (codes "f")) [] ∷ [];
}

abbrev pub timed_terms_p : Problem
timed_terms_p = record plain_problem {
  init = init.Value 0 (call.Named (atom 0 (name 0 (codes "f")) [])) (whole (pos 0)) ∷ [];
  goal = goal.And 0
      (goal.Preference 0 None
      (soft.Comparison
      (cond.Compare 0 mark.AtLeast (expr.Fluent (atom 0 (name 0 (codes "f")) []))
      (expr.Number 0 (whole (pos 0)))))
      ∷ goal.Preference 0 None (soft.Formula (form.Atom (atom 0 (name 0 (codes "p")) [])))
      ∷ []);
  constraints = Some
      (con.And 0
      (con.Hard (trail.Within 0 (whole (pos 1)) (form.Atom (atom 0 (name 0 (codes "p")) [])))
      ∷ con.Preference 0 None (trail.Within 0 (whole (pos 2)) (form.Atom (atom 0 (name 0 (codes "p")) [])))
      ∷ con.Preference 0 None (trail.Always 0 (form.Atom (atom 0 (name 0 (codes "p")) [])))
      ∷ []));
}

-- An implication is `or` of the negation; a quantifier is the list of its instances, empty without objects.
-- (define (domain d) (:types t) (:predicates (p ?x)))
-- (define (problem e) (:domain d) (:objects a) (:init ) (:goal (and)) (:constraints (always (imply (exists (?x) (p
-- ?x)) (forall (?y - t) (p ?y))))))
abbrev pub quantified_formula_d : Domain
quantified_formula_d = record plain_domain {
  types = group (name 0 (codes "t") ∷ []) sort.Object ∷ [];
  predicates = declared.Named 0 (name 0 (codes "p")) (group (name 0 (codes "?x") ∷ []) sort.Object ∷ []) ∷ [];
}

abbrev pub quantified_formula_p : Problem
quantified_formula_p = record plain_problem {
  objects = group (name 0 (codes "a") ∷ []) sort.Object ∷ [];
  constraints = Some
      (con.Hard
      (trail.Always 0
      (form.Imply 0
      (form.Exists 0 (group (name 0 (codes "?x") ∷ []) sort.Object ∷ [])
      (form.Atom (atom 0 (name 0 (codes "p")) (term.Variable (name 0 (codes "?x")) ∷ []))))
      (form.Forall 0 (group (name 0 (codes "?y") ∷ []) (sort.Named (name 0 (codes "t"))) ∷ [])
      (form.Atom (atom 0 (name 0 (codes "p")) (term.Variable (name 0 (codes "?y")) ∷ [])))))));
}

pub record TermsComeOut : Type 0 where
  -- Instances of a preference go by the `forall`s around it, outer variables first.
  pub nested_foralls : map formula_of (softs nested_foralls_d nested_foralls_p)
      ≡ (fact.Is record { fact = 0; holds = true }) ∷ (fact.Is record { fact = 1; holds = true }) ∷ (fact.Is record { fact = 2; holds = true }) ∷ (fact.Is record { fact = 3; holds = true }) ∷ []
  -- A maximised metric is negated; an unnamed preference is named `anonymous`; a name without a weight weighs 0.
  pub weights : map weight_of (softs weights_d weights_p) ≡ (whole (pos 2)) ∷ (whole (pos 1)) ∷ (whole (pos 0)) ∷ []
  pub weights_of_the_metric : metric (grounding weights_d weights_p)
      ≡ record { constant = whole (negsuc 6); last = whole (pos 1); fluents = record { constant = whole (pos 0); terms = [] } }
  -- A `within` counts as a timed term in a preference, not as a hard constraint; so does a goal preference with a
  -- comparison.
  pub timed_terms : length (filter is_timed_term (softs timed_terms_d timed_terms_p)) ≡ 2
  -- An implication is `or` of the negation; a quantifier is the list of its instances, empty without objects.
  pub quantified_formula : map (λ (t : Trail). t.first) (hards quantified_formula_d quantified_formula_p)
      ≡ (fact.Or ((fact.Not (fact.Or ((fact.Is record { fact = 0; holds = true }) ∷ []))) ∷ (fact.And []) ∷ [])) ∷ []
