-- Believed: what is wrong at places of a text, and which of it comes first.
use Rattle.std.specs.Prelude.{ℕ, if◌then◌else◌, nat_le, List, [], ◌∷◌, Option, Some, None}
use Rattle.pddl_terms.specs.declared.faults.Kind.{Kind}
use Rattle.pddl_names.specs.declared.offences.Offence.{Offence}

abbrev pub offence : Kind → ℕ → Offence
offence kind place = record { kind = kind; place = place }

-- of two offences the one of lesser place; of two at one place the former
abbrev pub earlier : Option Offence → Option Offence → Option Offence
earlier None other = other
earlier (Some one) None = Some one
earlier (Some one) (Some other) = if nat_le one.place other.place then Some one else Some other

-- the offence of least place, if there is any
abbrev pub least : List Offence → Option Offence
least [] = None
least (o ∷ more) = earlier (Some o) (least more)
