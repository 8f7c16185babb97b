-- Believed: worked examples: actions, snap actions and timed steps.
use Rattle.std.specs.Prelude.{◌≡◌, [], ◌∷◌, true, false, pos, negsuc, Some, None, codes, map}
use Rattle.std.specs.List.{flat_map}
use Rattle.rational.specs.Rational.{whole}
use Rattle.pddl_terms.specs.declared.files.Domain.{Domain}
use Rattle.pddl_terms.specs.declared.files.Problem.{Problem}
use Rattle.task_types.specs.declared.actions.Action.{Action}
use Rattle.task_types.specs.declared.actions.Bound.{Bound}
use Rattle.task_types.specs.declared.actions.Snap.{Snap}
use Rattle.pddl_terms.specs.declared.files.ActionBody.TheVariants as body
use Rattle.pddl_terms.specs.declared.trees.Call.TheVariants as call
use Rattle.pddl_terms.specs.declared.trees.ChangeKind.TheVariants as change
use Rattle.pddl_terms.specs.declared.trees.CondTree.TheVariants as cond
use Rattle.pddl_terms.specs.declared.files.Declared.TheVariants as declared
use Rattle.pddl_terms.specs.declared.trees.DurTree.TheVariants as dur
use Rattle.pddl_terms.specs.declared.trees.EffTree.TheVariants as eff
use Rattle.pddl_terms.specs.declared.trees.ExprTree.TheVariants as expr
use Rattle.pddl_terms.specs.declared.files.InitEntry.TheVariants as init
use Rattle.pddl_terms.specs.declared.trees.Comparison.TheVariants as mark
use Rattle.pddl_terms.specs.declared.trees.RateTree.TheVariants as rate
use Rattle.pddl_terms.specs.declared.trees.Side.TheVariants as side
use Rattle.pddl_terms.specs.declared.trees.TypeName.TheVariants as sort
use Rattle.pddl_terms.specs.declared.trees.TimedEff.TheVariants as teff
use Rattle.pddl_terms.specs.declared.trees.Trend.TheVariants as trend
use Rattle.ground_world.specs.FirstState.{world}
use Rattle.grounder.specs.ExampleWords.{actions, atom, fluents, group, kept_arguments, name, plain_domain, plain_problem, snaps}
use Rattle.grounder.specs.Task.{grounding, moments, timed_snap, timings}

-- An instantaneous action has one snap action, a durative one two.
-- (define (domain d) (:predicates (p)) (:action go) (:durative-action to :duration (and)) (:action up))
-- (define (problem e) (:domain d) (:objects a b) (:init ) (:goal (and)) )
abbrev pub snaps_numbered_d : Domain
snaps_numbered_d = record plain_domain {
  predicates = declared.Named 0 (name 0 (codes "p")) [] ∷ [];
  actions =
      (record { at = 0; name = name 0 (codes "go"); parameters = []; body = body.Instant None None })
      ∷ (record {
        at = 0;
        name = name 0 (codes "to");
        parameters = [];
        body = body.Durative (dur.And 0 []) None None;
      })
      ∷ (record { at = 0; name = name 0 (codes "up"); parameters = []; body = body.Instant None None })
      ∷ [];
}

abbrev pub snaps_numbered_p : Problem
snaps_numbered_p = plain_problem

-- An equality is its at-least bound, then its at-most bound; a bound without a tag is read at the start.
-- (define (domain d) (:durative-action go :duration (and (= ?duration 2) (at end (<= ?duration 3)))))
-- (define (problem e) (:domain d) (:objects a b) (:init ) (:goal (and)) )
abbrev pub bounds_of_duration_d : Domain
bounds_of_duration_d = record plain_domain {
  actions =
      (record {
        at = 0;
        name = name 0 (codes "go");
        parameters = [];
        body = body.Durative
            (dur.And 0
            (dur.Bound 0 mark.Equal (expr.Number 0 (whole (pos 2)))
            ∷ dur.AtEnd 0 (dur.Bound 0 mark.AtMost (expr.Number 0 (whole (pos 3))))
            ∷ []))
            None
            None;
      })
      ∷ [];
}

abbrev pub bounds_of_duration_p : Problem
bounds_of_duration_p = plain_problem

-- A rate belongs to the start; `#t` is 1, a decrease the negative.
-- (define (domain d) (:functions (f)) (:durative-action go :duration (and) :effect (and (at end (increase (f) 1))
-- (increase (f) #t) (decrease (f) #t))))
-- (define (problem e) (:domain d) (:objects a b) (:init (= (f) 0)) (:goal (and)) )
abbrev pub rates_at_start_d : Domain
rates_at_start_d = record plain_domain {
  functions = declared.Named 0 (name 0 (codes "f")) [] ∷ [];
  actions =
      (record {
        at = 0;
        name = name 0 (codes "go");
        parameters = [];
        body = body.Durative (dur.And 0 []) None
            (Some
            (teff.And 0
            (teff.AtEnd 0
            (eff.Change 0 change.Increase (call.Named (atom 0 (name 0 (codes "f")) []))
            (expr.Number 0 (whole (pos 1))))
            ∷ teff.Rate 0 trend.Rises (call.Named (atom 0 (name 0 (codes "f")) [])) (rate.One 0)
            ∷ teff.Rate 0 trend.Falls (call.Named (atom 0 (name 0 (codes "f")) [])) (rate.One 0)
            ∷ [])));
      })
      ∷ [];
}

abbrev pub rates_at_start_p : Problem
rates_at_start_p = record plain_problem { init = init.Value 0 (call.Named (atom 0 (name 0 (codes "f")) [])) (whole (pos 0)) ∷ [] }

-- A rate changes its fluent, which isn't static then, also a rate of value 0.
-- (define (domain d) (:functions (f)) (:durative-action go :duration (and) :effect (increase (f) (* 0 #t))))
-- (define (problem e) (:domain d) (:objects a b) (:init (= (f) 0)) (:goal (and)) )
abbrev pub rate_changes_d : Domain
rate_changes_d = record plain_domain {
  functions = declared.Named 0 (name 0 (codes "f")) [] ∷ [];
  actions =
      (record {
        at = 0;
        name = name 0 (codes "go");
        parameters = [];
        body = body.Durative (dur.And 0 []) None
            (Some
            (teff.Rate 0 trend.Rises (call.Named (atom 0 (name 0 (codes "f")) []))
            (rate.Times 0 (expr.Number 0 (whole (pos 0))))));
      })
      ∷ [];
}

abbrev pub rate_changes_p : Problem
rate_changes_p = record plain_problem { init = init.Value 0 (call.Named (atom 0 (name 0 (codes "f")) [])) (whole (pos 0)) ∷ [] }

-- A decrease is the increase by the negative; the factor of the duration stands apart.
-- (define (domain d) (:functions (f)) (:durative-action go :duration (and) :effect (at end (decrease (f) (+ 1 (* 2
-- ?duration))))))
-- (define (problem e) (:domain d) (:objects a b) (:init (= (f) 0)) (:goal (and)) )
abbrev pub decrease_with_duration_d : Domain
decrease_with_duration_d = record plain_domain {
  functions = declared.Named 0 (name 0 (codes "f")) [] ∷ [];
  actions =
      (record {
        at = 0;
        name = name 0 (codes "go");
        parameters = [];
        body = body.Durative (dur.And 0 []) None
            (Some
            (teff.AtEnd 0
            (eff.Change 0 change.Decrease (call.Named (atom 0 (name 0 (codes "f")) []))
            (expr.Sum 0
            (expr.Number 0 (whole (pos 1))
            ∷ expr.Product 0 (expr.Number 0 (whole (pos 2)) ∷ expr.Duration 0 ∷ [])
            ∷ [])))));
      })
      ∷ [];
}

abbrev pub decrease_with_duration_p : Problem
decrease_with_duration_p = record plain_problem { init = init.Value 0 (call.Named (atom 0 (name 0 (codes "f")) [])) (whole (pos 0)) ∷ [] }

-- The timed literals of one moment are one step; moments ascend; what is written twice stays twice.
-- (define (domain d) (:predicates (p) (q)))
-- (define (problem e) (:domain d) (:objects a b) (:init (at 3 (q)) (at 2 (p)) (at 3.0 (p)) (at 3 (q))) (:goal (and))
-- )
abbrev pub timed_steps_d : Domain
timed_steps_d = record plain_domain {
  predicates = declared.Named 0 (name 0 (codes "p")) [] ∷ declared.Named 0 (name 0 (codes "q")) [] ∷ [];
}

abbrev pub timed_steps_p : Problem
timed_steps_p = record plain_problem {
  init =
      init.Timed
      (record {
        at = 0;
        moment_at = 0;
        moment = whole (pos 3);
        holds = true;
        atom = call.Named (atom 0 (name 0 (codes "q")) []);
      })
      ∷ init.Timed
      (record {
        at = 0;
        moment_at = 0;
        moment = whole (pos 2);
        holds = true;
        atom = call.Named (atom 0 (name 0 (codes "p")) []);
      })
      ∷ init.Timed
      (record {
        at = 0;
        moment_at = 0;
        moment = whole (pos 3);
        holds = true;
        atom = call.Named (atom 0 (name 0 (codes "p")) []);
      })
      ∷ init.Timed
      (record {
        at = 0;
        moment_at = 0;
        moment = whole (pos 3);
        holds = true;
        atom = call.Named (atom 0 (name 0 (codes "q")) []);
      })
      ∷ [];
}

-- A literal written twice stays twice, and static ones are left out of an action's condition.
-- (define (domain d) (:constants a) (:predicates (p) (s)) (:action go :precondition (and (p) (s) (p) (= a a)) :effect
-- (not (p))))
-- (define (problem e) (:domain d) (:objects b) (:init (s)) (:goal (and)) )
abbrev pub literal_twice_d : Domain
literal_twice_d = record plain_domain {
  constants = group (name 0 (codes "a") ∷ []) sort.Object ∷ [];
  predicates = declared.Named 0 (name 0 (codes "p")) [] ∷ declared.Named 0 (name 0 (codes "s")) [] ∷ [];
  actions =
      (record {
        at = 0;
        name = name 0 (codes "go");
        parameters = [];
        body = body.Instant
            (Some
            (cond.And 0
            (cond.Atom (atom 0 (name 0 (codes "p")) [])
            ∷ cond.Atom (atom 0 (name 0 (codes "s")) [])
            ∷ cond.Atom (atom 0 (name 0 (codes "p")) [])
            ∷ cond.Equal 0 (side.Bare (name 0 (codes "a"))) (side.Bare (name 0 (codes "a")))
            ∷ [])))
            (Some (eff.Delete 0 (call.Named (atom 0 (name 0 (codes "p")) []))));
      })
      ∷ [];
}

abbrev pub literal_twice_p : Problem
literal_twice_p = record plain_problem {
  objects = group (name 0 (codes "b") ∷ []) sort.Object ∷ [];
  init = init.Holds (atom 0 (name 0 (codes "s")) []) ∷ [];
}

pub record ActionsComeOut : Type 0 where
  -- An instantaneous action has one snap action, a durative one two.
  pub snaps_numbered : map (λ (a : Action). a.start) (actions snaps_numbered_d snaps_numbered_p) ≡ 0 ∷ 1 ∷ 3 ∷ []
  -- An equality is its at-least bound, then its at-most bound; a bound without a tag is read at the start.
  pub least_before_most : map (λ (b : Bound). b.at_least)
      (flat_map (λ (a : Action). a.bounds) (actions bounds_of_duration_d bounds_of_duration_p))
      ≡ true ∷ false ∷ false ∷ []
  pub bounds_at_the_end : map (λ (b : Bound). b.at_end)
      (flat_map (λ (a : Action). a.bounds) (actions bounds_of_duration_d bounds_of_duration_p))
      ≡ false ∷ false ∷ true ∷ []
  pub ends_follow_starts : map (λ (a : Action). a.end) (actions bounds_of_duration_d bounds_of_duration_p)
      ≡ (Some 1) ∷ []
  -- A rate belongs to the start; `#t` is 1, a decrease the negative.
  pub rates_at_start : map (λ (s : Snap). s.rates) (snaps rates_at_start_d rates_at_start_p)
      ≡ ((0, whole (pos 1)) ∷ (0, whole (negsuc 0)) ∷ []) ∷ [] ∷ []
  -- A rate changes its fluent, which isn't static then, also a rate of value 0.
  pub rate_changes : fluents rate_changes_d rate_changes_p ≡ (0 ∷ []) ∷ []
  pub kept_by_a_rate : kept_arguments rate_changes_d rate_changes_p ≡ [] ∷ []
  -- A decrease is the increase by the negative; the factor of the duration stands apart.
  pub decrease_with_duration : map (λ (s : Snap). s.effect.increases)
      (snaps decrease_with_duration_d decrease_with_duration_p)
      ≡ [] ∷ ((0, record { form = record { constant = whole (negsuc 0); terms = [] }; duration = whole (negsuc 1) }) ∷ []) ∷ []
  -- The timed literals of one moment are one step; moments ascend; what is written twice stays twice.
  pub moments_ascend : moments (timings (world timed_steps_d timed_steps_p) timed_steps_p.init)
      ≡ (whole (pos 2)) ∷ (whole (pos 3)) ∷ []
  pub timed_steps : map
      (λ t. (timed_snap (grounding timed_steps_d timed_steps_p) (timings (world timed_steps_d timed_steps_p) timed_steps_p.init) t).effect.adds) (moments (timings (world timed_steps_d timed_steps_p) timed_steps_p.init))
      ≡ (0 ∷ []) ∷ (1 ∷ 0 ∷ 1 ∷ []) ∷ []
  -- A literal written twice stays twice, and static ones are left out of an action's condition.
  pub literal_twice : map (λ (s : Snap). s.condition.literals) (snaps literal_twice_d literal_twice_p)
      ≡ (record { fact = 0; holds = true } ∷ record { fact = 0; holds = true } ∷ []) ∷ []
