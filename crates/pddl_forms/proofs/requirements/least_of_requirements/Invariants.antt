use Rattle.std.proofs.Common.{◌≡◌, take}
use Rattle.std.specs.List.{flat_map}
use Rattle.pddl_forms.specs.Offences.{least_with}
use Rattle.pddl_forms.specs.Requirements.{requirement_offences}
use Rattle.pddl_forms.proofs.requirements.least_of_requirements.Given as goal

abbrev pub invariant-loop-flag : goal.invariant-loop-flag
invariant-loop-flag l = l.found ≡ least_with l.fn.found (flat_map requirement_offences (take l.flag-index l.requirements))
