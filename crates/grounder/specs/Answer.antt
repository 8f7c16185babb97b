-- Believed: what grounding answers: the ground task, or the first fault of a fixed order.
use Rattle.std.specs.Prelude.{ℕ, ◌+◌, ◌≡◌, ◌⊎◌, Bool, true, false, nat_le, if◌then◌else◌, min, max, List, [], ◌∷◌, ◌++◌, map, length, Option, Some, None, Result, Ok, Err}
use Rattle.std.specs.List.{flat_map, filter}
use Rattle.task_types.specs.declared.constraints.TrailKind.{TrailKind}
use Rattle.task_types.specs.declared.constraints.TrailKind.TheVariants.{Within}
use Rattle.task_types.specs.declared.costs.Soft.{Soft}
use Rattle.task_types.specs.declared.costs.Soft.TheVariants as soft
use Rattle.task_types.specs.declared.parts.TaskParts.{TaskParts}
use Rattle.pddl_terms.specs.declared.files.Domain.{Domain}
use Rattle.pddl_terms.specs.declared.files.Problem.{Problem}
use Rattle.ground_world.specs.World.{World, either, GroundAtom}
use Rattle.ground_world.specs.FirstState.{unvalued_places}
use Rattle.ground_world.specs.Expressions.{Reckoned, reckoned, mentioned, wide_places, zero_divisors}
use Rattle.ground_world.specs.Conditions.{Test, tests_in, difference}
use Rattle.ground_world.specs.Leaves.{goal_preferences, leaf_envs, unknowns}
use Rattle.ground_world.specs.Counts.{bindings_fit}
use Rattle.grounder.specs.declared.faults.LimitName.{LimitName}
use Rattle.grounder.specs.declared.faults.LimitName.TheVariants as limit
use Rattle.grounder.specs.declared.faults.GroundFault.{GroundFault}
use Rattle.grounder.specs.declared.faults.GroundFault.TheVariants as fault
use Rattle.grounder.specs.Instances.{no_unknowns, test_mentions, flaws_of, wide_in_actions}
use Rattle.grounder.specs.Terms.{preference_parts, comparisons_in, goal_parts}
use Rattle.grounder.specs.Task.{grounding, ground_task}

-- ---- places of faults

abbrev pub least : List ℕ → Option ℕ
least [] = None
least (p ∷ ps) = Some (either p (min p) (least ps))

-- what a unit of the problem mentions and reckons: the goal without its preferences, an instance of a goal preference,
-- or the metric
pub record Unit : Type 0 where
  pub mentions : List (ℕ × GroundAtom)
  pub reckons : List Reckoned

abbrev pub unit_of_tests : World → List Test → Unit
unit_of_tests w ts = record { mentions = flat_map (test_mentions w) ts; reckons = map (difference w no_unknowns) ts }

unfoldable pub units : World → Domain → Problem → List Unit
units w d p = unit_of_tests w (flat_map tests_in (goal_parts w [] p.goal))
    ∷ (flat_map (λ l. map (λ env. unit_of_tests w (flat_map (comparisons_in w env) (preference_parts w l.leaf.body))) (leaf_envs w l))
    (goal_preferences p.goal)
    ++ either [] (λ m. record {
      mentions = mentioned w [] m.expression;
      reckons = reckoned w (unknowns d p) [] m.expression ∷ [];
    } ∷ []) p.metric)

-- the places of fluents without a value; a unit that has one reckons nothing
abbrev pub unvalued : World → Unit → List ℕ
unvalued w u = unvalued_places w u.mentions

abbrev pub wide_in : World → Unit → List ℕ
wide_in w u = either (wide_places (flaws_of u.reckons)) (λ p. []) (least (unvalued w u))

abbrev pub none_in : World → Unit → List ℕ
none_in w u = either (zero_divisors (flaws_of u.reckons)) (λ p. unvalued w u) (least (unvalued w u))

-- ---- the order of faults

abbrev pub at_place : (ℕ → GroundFault) → List ℕ → Option GroundFault
at_place f ps = either None (λ p. Some (f p)) (least ps)

abbrev pub first_fault : List (Option GroundFault) → Option GroundFault
first_fault [] = None
first_fault (f ∷ fs) = either (first_fault fs) (λ x. Some x) f

abbrev pub is_within : TrailKind → Bool
is_within Within = true
is_within _ = false

-- a preference by `within`, a goal preference with a comparison, or a time cost
abbrev pub is_timed_term : Soft → Bool
is_timed_term (soft.Trail c q) = is_within c.kind
is_timed_term (soft.Goal f [] q) = false
is_timed_term (soft.Goal f (x ∷ xs) q) = true
is_timed_term (soft.Late f c q) = true
is_timed_term (soft.Pieces f ps q) = true

-- the greatest of some numbers, 0 where there are none
abbrev pub greatest : List ℕ → ℕ
greatest [] = 0
greatest (n ∷ ns) = max n (greatest ns)

-- a limit: its name, what is counted, and the most that it may be
pub record Counted : Type 0 where
  pub name : LimitName
  pub count : ℕ
  pub most : ℕ

-- the limits of a task, in the order of the faults
abbrev pub limits : TaskParts → List Counted
limits task = record { name = limit.Facts; count = length task.facts; most = 16384 }
    ∷ record { name = limit.Fluents; count = length task.fluents; most = 2048 }
    ∷ record { name = limit.Actions; count = length task.actions; most = 8192 }
    ∷ record { name = limit.Terms; count = length task.hard + length task.soft; most = 512 }
    ∷ record { name = limit.Timed; count = length task.timed; most = 64 }
    ∷ record { name = limit.Watches; count = greatest (map (λ a. length a.over_all.comparisons) task.actions); most = 8 }
    ∷ record { name = limit.Moments; count = length (filter is_timed_term task.soft); most = 96 }
    ∷ []

abbrev pub past : Counted → Option GroundFault
past c = if nat_le c.count c.most then None else Some (fault.Limit c.name)

unfoldable pub ground_fault : Domain → Problem → Option GroundFault
ground_fault d p =
    let g = grounding d p in
    let w = g.world in
    let task = ground_task d p in
    first_fault (
    (if bindings_fit w d p then None else Some (fault.Limit limit.Bindings))
    ∷ at_place fault.Wide (wide_in_actions w d.actions)
    ∷ at_place fault.Wide (flat_map (wide_in w) (units w d p))
    ∷ at_place fault.NoValue (flat_map (none_in w) (units w d p))
    ∷ map past (limits task))

-- What grounding answers: the first fault, or the ground task.
unfoldable pub ground_answer : Domain → Problem → Result TaskParts GroundFault
ground_answer d p = either (Ok (ground_task d p)) (λ f. Err f) (ground_fault d p)

-- The answer is the one that is due, or there was no memory.
abbrev pub Answers : Domain → Problem → Result TaskParts GroundFault → Type 0
Answers d p (Ok task) = ground_answer d p ≡ Ok task
Answers d p (Err f) = (ground_answer d p ≡ Err f) ⊎ (f ≡ fault.Memory)
