-- Private: the faults that are told before the task is made: those that have a place, and three of its limits.
use Rattle.std.specs.Prelude.{ℕ, List, [], ◌∷◌, map, Option, Some, None}
use Rattle.std.specs.List.{flat_map}
use Rattle.task_types.specs.declared.parts.TaskParts.{TaskParts}
use Rattle.pddl_terms.specs.declared.files.Domain.{Domain}
use Rattle.pddl_terms.specs.declared.files.Problem.{Problem}
use Rattle.ground_world.specs.World.{World, either}
use Rattle.grounder.specs.declared.faults.LimitName.TheVariants as limit
use Rattle.grounder.specs.declared.faults.GroundFault.{GroundFault}
use Rattle.grounder.specs.declared.faults.GroundFault.TheVariants as fault
use Rattle.grounder.specs.Instances.{wide_in_actions}
use Rattle.grounder.specs.Answer.{Unit, least, units, wide_in, none_in, first_fault, limits, past}

abbrev pub placed : (ℕ → GroundFault) → Option ℕ → Option GroundFault
placed f place = either None (λ p. Some (f p)) place

-- the first fault of the least places: of what is too wide in actions, of what is too wide in units, and of what has no
-- value in units
abbrev pub place_fault : Option ℕ → Option ℕ → Option ℕ → Option GroundFault
place_fault actions wide none = first_fault (placed fault.Wide actions ∷ placed fault.Wide wide ∷ placed fault.NoValue none ∷ [])

abbrev pub unit_fault : World → Option ℕ → List Unit → Option GroundFault
unit_fault w actions us = place_fault actions (least (flat_map (wide_in w) us)) (least (flat_map (none_in w) us))

-- the first fault that has a place
abbrev pub value_fault : World → Domain → Problem → Option GroundFault
value_fault w d p = unit_fault w (least (wide_in_actions w d.actions)) (units w d p)

-- the first limit that numbers of facts, fluents and actions are past
abbrev pub count_fault : ℕ → ℕ → ℕ → Option GroundFault
count_fault facts fluents actions = first_fault (map past
    (record { name = limit.Facts; count = facts; most = 16384 }
    ∷ record { name = limit.Fluents; count = fluents; most = 2048 }
    ∷ record { name = limit.Actions; count = actions; most = 8192 }
    ∷ []))

-- the first limit that a task is past
abbrev pub limit_fault : TaskParts → Option GroundFault
limit_fault task = first_fault (map past (limits task))
