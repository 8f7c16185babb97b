-- Believed: what is wrong unless all is right. What is wrong at a place, and the least of several, is said in pddl_names.
use Rattle.std.specs.Prelude.{ℕ, Bool, List, [], ◌∷◌, Option, Some, if◌then◌else◌}
use Rattle.pddl_terms.specs.declared.faults.Kind.{Kind}
use Rattle.pddl_names.specs.declared.offences.Offence.{Offence}
pub use Rattle.pddl_names.specs.Offences.{offence, earlier}

-- this at the place, unless all is right
abbrev pub unless : Bool → Kind → ℕ → List Offence
unless right kind at = if right then [] else offence kind at ∷ []

-- one more is met
unfoldable pub lesser : Option Offence → Offence → Option Offence
lesser found o = earlier found (Some o)

-- The least of these and of what was found before them, as a walk over a tree finds it.
unfoldable pub least_with : Option Offence → List Offence → Option Offence
least_with found [] = found
least_with found (o ∷ os) = least_with (lesser found o) os
