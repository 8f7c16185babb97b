-- Where there is no fault, every limit is kept.
use Rattle.std.proofs.Common.{◌≡◌, refl, sym, ap, ◌∙◌, ℕ, ◌+◌, ◌≤◌, arith, Bool, true, false, nat_le, List, [], ◌∷◌, ◌++◌, map, length, Option, Some, None}
use Rattle.std.specs.Prelude.{if◌then◌else◌}
use Rattle.std.specs.List.{AllByRecursion as Each, flat_map}
use Rattle.std.proofs.lemmas.List.Concat.{flat_map-append}
use Rattle.basics.proofs.Lists.{nothing_left, nothing_right}
use Rattle.basics.proofs.Naturals.{le_out}
use Rattle.task_types.specs.declared.parts.TaskParts.{TaskParts}
use Rattle.pddl_terms.specs.declared.files.Domain.{Domain}
use Rattle.pddl_terms.specs.declared.files.Metric.{Metric}
use Rattle.pddl_terms.specs.declared.files.Problem.{Problem}
use Rattle.ground_world.specs.World.{World, either}
use Rattle.ground_world.specs.Conditions.{tests_in}
use Rattle.ground_world.specs.Expressions.{mentioned, reckoned, zero_divisors}
use Rattle.ground_world.specs.FirstState.{unvalued_places, world}
use Rattle.ground_world.specs.Leaves.{goal_preferences, leaf_envs, unknowns}
use Rattle.ground_world.specs.Counts.{bindings_fit}
use Rattle.grounder.proofs.Each.{map_each}
use Rattle.grounder.specs.declared.faults.LimitName.TheVariants as limit
use Rattle.grounder.specs.declared.faults.GroundFault.{GroundFault}
use Rattle.grounder.specs.declared.faults.GroundFault.TheVariants as fault
use Rattle.grounder.specs.Instances.{flaws_of, wide_in_actions}
use Rattle.grounder.specs.Task.{ground_task}
use Rattle.grounder.specs.Terms.{preference_parts, comparisons_in, goal_parts}
use Rattle.grounder.specs.Answer.{Counted, Unit, unit_of_tests, at_place, first_fault, greatest, least, past, limits, units, unvalued, wide_in, none_in, ground_fault}

pub none-each : (fs : List (Option GroundFault)) → first_fault fs ≡ None → Each (λ f. f ≡ None) fs
none-each [] h = tt
none-each (None ∷ fs) h = (refl, none-each fs h)
none-each (Some f ∷ fs) h = cc

-- a limit that isn't passed
pub kept-limit : (c : Counted) → past c ≡ None → c.count ≤ c.most
kept-limit c h = by (nat_le c.count c.most) refl h
  where
    by : (b : Bool) → nat_le c.count c.most ≡ b → (if b then None else Some (fault.Limit c.name)) ≡ None → c.count ≤ c.most
    by true e h = le_out c.count c.most e
    by false e h = cc

pub record Limited (task : TaskParts) : Type 0 where
  pub facts : length task.facts ≤ 16384
  pub fluents : length task.fluents ≤ 2048
  pub actions : length task.actions ≤ 8192
  pub terms : length task.hard + length task.soft ≤ 512
  pub timed : length task.timed ≤ 64
  pub watches : greatest (map (λ a. length a.over_all.comparisons) task.actions) ≤ 8

limits-kept : (task : TaskParts) → first_fault (map past (limits task)) ≡ None → Limited task
limits-kept task h =
    let a : Each (λ c. past c ≡ None) (limits task) = map_each (λ f. f ≡ None) past (limits task) (none-each (map past (limits task)) h) in
    record {
      facts = kept-limit (record { name = limit.Facts; count = length task.facts; most = 16384 }) a.0;
      fluents = kept-limit (record { name = limit.Fluents; count = length task.fluents; most = 2048 }) a.1.0;
      actions = kept-limit (record { name = limit.Actions; count = length task.actions; most = 8192 }) a.1.1.0;
      terms = kept-limit (record { name = limit.Terms; count = length task.hard + length task.soft; most = 512 }) a.1.1.1.0;
      timed = kept-limit (record { name = limit.Timed; count = length task.timed; most = 64 }) a.1.1.1.1.0;
      watches = kept-limit (record { name = limit.Watches; count = greatest (map (λ a. length a.over_all.comparisons) task.actions); most = 8 }) a.1.1.1.1.1.0;
    }

-- ---- a fault without a place

no_least : (ps : List ℕ) → least ps ≡ None → ps ≡ []
no_least [] h = refl
no_least (p ∷ ps) h = cc

no_place : (f : ℕ → GroundFault) (ps : List ℕ) → at_place f ps ≡ None → ps ≡ []
no_place f ps h = no_least ps (by (least ps) h)
  where
    by : (o : Option ℕ) → either None (λ p. Some (f p)) o ≡ None → o ≡ None
    by None e = refl
    by (Some p) e = cc

-- each fluent of the metric has a value
abbrev pub HasValues : World → Option Metric → Type 0
HasValues w o = (m : Metric) → o ≡ Some m → unvalued_places w (mentioned w [] m.expression) ≡ []

unit-valued : (w : World) (u : Unit) → none_in w u ≡ [] → unvalued w u ≡ []
unit-valued w u h = by (least (unvalued w u)) refl h
  where
    by : (o : Option ℕ) → least (unvalued w u) ≡ o → either (zero_divisors (flaws_of u.reckons)) (λ p. unvalued w u) o ≡ [] → unvalued w u ≡ []
    by None e k = no_least (unvalued w u) e
    by (Some p) e k = k

metric-valued : (d : Domain) (p : Problem) (w : World) → flat_map (none_in w) (units w d p) ≡ [] → HasValues w p.metric
unfolding units
metric-valued d p w h m e = unit-valued w (of_one m) (nothing_left (none_in w (of_one m)) [] (ap (λ o. flat_map (none_in w) (of_metric o)) (sym e) ∙ rest))
  where
    goal : Unit
    goal = unit_of_tests w (flat_map tests_in (goal_parts w [] p.goal))

    preferences : List Unit
    preferences = flat_map (λ l. map (λ env. unit_of_tests w (flat_map (comparisons_in w env) (preference_parts w l.leaf.body))) (leaf_envs w l)) (goal_preferences p.goal)

    of_one : Metric → Unit
    of_one m = record { mentions = mentioned w [] m.expression; reckons = reckoned w (unknowns d p) [] m.expression ∷ [] }

    of_metric : Option Metric → List Unit
    of_metric o = either [] (λ m. of_one m ∷ []) o

    rest : flat_map (none_in w) (of_metric p.metric) ≡ []
    rest = nothing_right (flat_map (none_in w) preferences) (flat_map (none_in w) (of_metric p.metric))
        (sym (flat_map-append (none_in w) preferences (of_metric p.metric)) ∙ nothing_right (none_in w goal) (flat_map (none_in w) (preferences ++ of_metric p.metric)) h)

-- what no fault tells
pub record IsPassed (d : Domain) (p : Problem) : Type 0 where
  pub bindings : bindings_fit (world d p) d p ≡ true
  pub limited : Limited (ground_task d p)
  pub valued : HasValues (world d p) p.metric

pub passed : (d : Domain) (p : Problem) → ground_fault d p ≡ None → IsPassed d p
unfolding ground_fault
passed d p h = record {
  bindings = all (bindings_fit (world d p) d p) told.0;
  limited = limits-kept (ground_task d p) (back (map past (limits (ground_task d p))) told.1.1.1.1);
  valued = metric-valued d p (world d p) (no_place fault.NoValue (flat_map (none_in (world d p)) (units (world d p) d p)) told.1.1.1.0);
}
  where
    all : (b : Bool) → (if b then None else Some (fault.Limit limit.Bindings)) ≡ None → b ≡ true
    all true e = refl
    all false e = cc

    told : Each (λ f. f ≡ None) ((if bindings_fit (world d p) d p then None else Some (fault.Limit limit.Bindings))
        ∷ at_place fault.Wide (wide_in_actions (world d p) d.actions) ∷ at_place fault.Wide (flat_map (wide_in (world d p)) (units (world d p) d p))
        ∷ at_place fault.NoValue (flat_map (none_in (world d p)) (units (world d p) d p)) ∷ map past (limits (ground_task d p)))
    told = none-each ((if bindings_fit (world d p) d p then None else Some (fault.Limit limit.Bindings))
        ∷ at_place fault.Wide (wide_in_actions (world d p) d.actions) ∷ at_place fault.Wide (flat_map (wide_in (world d p)) (units (world d p) d p))
        ∷ at_place fault.NoValue (flat_map (none_in (world d p)) (units (world d p) d p)) ∷ map past (limits (ground_task d p))) h

    back : (fs : List (Option GroundFault)) → Each (λ f. f ≡ None) fs → first_fault fs ≡ None
    back [] e = refl
    back (f ∷ fs) e = ap (λ x. either (first_fault fs) (λ y. Some y) x) e.0 ∙ back fs e.1

-- ---- the greatest of some numbers

pub greatest-each : {X : Type 0} (f : X → ℕ) (most : ℕ) (xs : List X) → greatest (map f xs) ≤ most → Each (λ x. f x ≤ most) xs
greatest-each f most [] h = tt
greatest-each f most (x ∷ xs) h = (omega arith, greatest-each f most xs (omega arith))
