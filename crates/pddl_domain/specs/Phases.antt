-- Believed: what a file is refused for behind its shape, phase by phase.
use Rattle.std.specs.Prelude.{List, [], ◌∷◌, Option, Some, None}
use Rattle.pddl_terms.specs.declared.faults.PddlFault.{PddlFault}
use Rattle.pddl_terms.specs.declared.faults.PddlFault.TheVariants.{At}
use Rattle.pddl_names.specs.declared.offences.Offence.{Offence}
use Rattle.pddl_names.specs.Offences.{least}

-- an offence, or what comes later where there is none
abbrev pub or_later : Option Offence → Option Offence → Option Offence
or_later None later = later
or_later (Some o) later = Some o

-- the offence of least place in the first phase that has any
abbrev pub first_of_phases : List (List Offence) → Option Offence
first_of_phases [] = None
first_of_phases (phase ∷ later) = or_later (least phase) (first_of_phases later)

-- the refusal for an offence
abbrev pub refusal_for : Option Offence → Option PddlFault
refusal_for None = None
refusal_for (Some o) = Some (At o.kind o.place)
