-- Which fault grounding tells: the first, in the order in which they are looked for.
use Rattle.std.proofs.Common.{◌≡◌, refl, sym, ap, ◌∙◌, ℕ, ◌<◌, ◌≤◌, arith, Bool, true, false, nat_le, List, [], ◌∷◌, ◌++◌, map, length, Option, Some, None, Ok, Err}
use Rattle.std.specs.Prelude.{if◌then◌else◌}
use Rattle.std.specs.List.{AllByRecursion as Each, flat_map}
use Rattle.std.proofs.lemmas.List.{length-map}
use Rattle.std.proofs.lemmas.Bool.Decides.{nat_tests}
use Rattle.task_types.specs.declared.parts.TaskParts.{TaskParts}
use Rattle.pddl_terms.specs.declared.files.Domain.{Domain}
use Rattle.pddl_terms.specs.declared.files.Problem.{Problem}
use Rattle.ground_world.specs.World.{either}
use Rattle.ground_world.specs.FirstState.{world}
use Rattle.ground_world.specs.Counts.{bindings_fit}
use Rattle.grounder.specs.declared.faults.LimitName.TheVariants as limit
use Rattle.grounder.specs.declared.faults.GroundFault.{GroundFault}
use Rattle.grounder.specs.declared.faults.GroundFault.TheVariants as fault
use Rattle.grounder.specs.Instances.{kept, wide_in_actions}
use Rattle.grounder.specs.Task.{fact_atoms, ground_task, grounding}
use Rattle.grounder.specs.Answer.{Counted, at_place, first_fault, ground_answer, ground_fault, limits, none_in, past, units, wide_in}
use Rattle.grounder.specs.FaultSteps.{count_fault, limit_fault, value_fault}
use Rattle.grounder.proofs.Passed.{kept-limit, none-each}
use Rattle.grounder.proofs.Each.{map_each}
use Rattle.grounder.proofs.Fields.{actions-is, facts-is, fact_of, fluents-is, fluent_of}
use Rattle.grounder.proofs.ActionFields.{length-numbered}

first-append : (fs gs : List (Option GroundFault)) → first_fault (fs ++ gs) ≡ either (first_fault gs) (λ x. Some x) (first_fault fs)
first-append [] gs = refl
first-append (None ∷ fs) gs = first-append fs gs
first-append (Some f ∷ fs) gs = refl

-- ---- the limits of numbers

counts-first : (task : TaskParts) → (more : Option GroundFault) × (limit_fault task ≡ either more (λ x. Some x) (count_fault (length task.facts) (length task.fluents) (length task.actions)))
counts-first task = (
  _,
  first-append
      (past (record { name = limit.Facts; count = length task.facts; most = 16384 })
      ∷ past (record { name = limit.Fluents; count = length task.fluents; most = 2048 })
      ∷ past (record { name = limit.Actions; count = length task.actions; most = 8192 })
      ∷ [])
      (map past (more (limits task))),
)
  where
    more : List Counted → List Counted
    more (a ∷ b ∷ c ∷ rest) = rest
    more xs = []

count-told : (task : TaskParts) (f : GroundFault) → count_fault (length task.facts) (length task.fluents) (length task.actions) ≡ Some f → limit_fault task ≡ Some f
count-told task f h = let k = counts-first task in k.1 ∙ ap (λ o. either k.0 (λ x. Some x) o) h

pub count-few : (facts fluents actions : ℕ) → count_fault facts fluents actions ≡ None → actions ≤ 8192
count-few facts fluents actions h =
    let own : List Counted = record { name = limit.Facts; count = facts; most = 16384 }
    ∷ record { name = limit.Fluents; count = fluents; most = 2048 }
    ∷ record { name = limit.Actions; count = actions; most = 8192 } ∷ [] in
    let a : Each (λ c. past c ≡ None) own = map_each (λ f. f ≡ None) past own (none-each (map past own) h) in
    kept-limit (record { name = limit.Actions; count = actions; most = 8192 }) a.1.1.0

too_many : (task : TaskParts) → 16384 < length task.facts → limit_fault task ≡ Some (fault.Limit limit.Facts)
too_many task h = count-told task (fault.Limit limit.Facts) (by (nat_le (length task.facts) 16384) (grind (arith, nat_tests)))
  where
    by : (b : Bool) → b ≡ false
        → first_fault ((if b then None else Some (fault.Limit limit.Facts))
        ∷ past (record { name = limit.Fluents; count = length task.fluents; most = 2048 })
        ∷ past (record { name = limit.Actions; count = length task.actions; most = 8192 }) ∷ []) ≡ Some (fault.Limit limit.Facts)
    by true e = cc
    by false e = refl

-- ---- the answer

module _ (d : Domain) (p : Problem) where
  -- the faults that have a place
  abbrev with_place : List (Option GroundFault)
  with_place = at_place fault.Wide (wide_in_actions (world d p) d.actions)
      ∷ at_place fault.Wide (flat_map (wide_in (world d p)) (units (world d p) d p))
      ∷ at_place fault.NoValue (flat_map (none_in (world d p)) (units (world d p) d p))
      ∷ []

  pub bindings-answer : bindings_fit (world d p) d p ≡ false → ground_answer d p ≡ Err (fault.Limit limit.Bindings)
  unfolding ground_answer ground_fault
  bindings-answer h = by (bindings_fit (world d p) d p) h (with_place ++ map past (limits (ground_task d p)))
    where
      by : (b : Bool) → b ≡ false → (fs : List (Option GroundFault))
          → either (Ok (ground_task d p)) (λ f. Err f) (first_fault ((if b then None else Some (fault.Limit limit.Bindings)) ∷ fs)) ≡ Err (fault.Limit limit.Bindings)
      by true e fs = cc
      by false e fs = refl

  module _ (fit : bindings_fit (world d p) d p ≡ true) where
    fault-within : ground_fault d p ≡ either (limit_fault (ground_task d p)) (λ x. Some x) (value_fault (world d p) d p)
    unfolding ground_fault
    fault-within = by (bindings_fit (world d p) d p) fit (with_place ++ map past (limits (ground_task d p))) ∙ first-append with_place (map past (limits (ground_task d p)))
      where
        by : (b : Bool) → b ≡ true → (fs : List (Option GroundFault)) → first_fault ((if b then None else Some (fault.Limit limit.Bindings)) ∷ fs) ≡ first_fault fs
        by true e fs = refl
        by false e fs = cc

    told : (o : Option GroundFault) → ground_fault d p ≡ o → ground_answer d p ≡ either (Ok (ground_task d p)) (λ f. Err f) o
    unfolding ground_answer
    told o e = ap (λ x. either (Ok (ground_task d p)) (λ f. Err f) x) e

    pub value-answer : (f : GroundFault) → value_fault (world d p) d p ≡ Some f → ground_answer d p ≡ Err f
    value-answer f h = told (Some f) (fault-within ∙ ap (λ x. either (limit_fault (ground_task d p)) (λ y. Some y) x) h)

    module _ (none : value_fault (world d p) d p ≡ None) where
      pub limit-answer : (o : Option GroundFault) → limit_fault (ground_task d p) ≡ o → ground_answer d p ≡ either (Ok (ground_task d p)) (λ f. Err f) o
      limit-answer o h = told o (fault-within ∙ ap (λ x. either (limit_fault (ground_task d p)) (λ y. Some y) x) none ∙ h)

      pub crowded-answer : 16384 < length (fact_atoms (world d p) d p) → ground_answer d p ≡ Err (fault.Limit limit.Facts)
      crowded-answer h = limit-answer (Some (fault.Limit limit.Facts))
          (too_many (ground_task d p) (let e = ap length (facts-is d p) ∙ length-map (fact_atoms (world d p) d p) (fact_of d p) in omega (arith, e, h)))

      -- the numbers that are known before the task is made
      pub count-answer : (facts fluents actions : ℕ) → facts ≡ length (fact_atoms (world d p) d p) → fluents ≡ length (world d p).fluents
          → actions ≡ length (kept (world d p) d.actions) → (f : GroundFault) → count_fault facts fluents actions ≡ Some f → ground_answer d p ≡ Err f
      count-answer facts fluents actions a b c f h = limit-answer (Some f) (count-told (ground_task d p) f
          (let x : length (ground_task d p).facts ≡ facts = ap length (facts-is d p) ∙ length-map (fact_atoms (world d p) d p) (fact_of d p) ∙ sym a in
          let y : length (ground_task d p).fluents ≡ fluents = ap length (fluents-is d p) ∙ length-map (world d p).fluents (fluent_of d p) ∙ sym b in
          let z : length (ground_task d p).actions ≡ actions = ap length (actions-is d p) ∙ length-numbered (grounding d p) 0 (kept (world d p) d.actions) ∙ sym c in
          ap (λ n. count_fault n (length (ground_task d p).fluents) (length (ground_task d p).actions)) x
          ∙ ap (λ n. count_fault facts n (length (ground_task d p).actions)) y
          ∙ ap (λ n. count_fault facts fluents n) z ∙ h))
