use Rattle.std.proofs.Common.{◌≡◌, take}
use Rattle.std.specs.List.{flat_map}
use Rattle.pddl_forms.specs.Offences.{least_with}
use Rattle.pddl_forms.specs.Forms.{section_offences}
use Rattle.pddl_forms.proofs.forms.least_of_sections.Given as goal

abbrev pub invariant-loop-at : goal.invariant-loop-at
invariant-loop-at l = l.found ≡ least_with l.fn.found (flat_map section_offences (take l.at-index l.places))
