use Rattle.std.proofs.Common.{◌≡◌, take}
use Rattle.std.specs.List.{flat_map}
use Rattle.pddl_forms.specs.Offences.{least_with}
use Rattle.ground_world.specs.Readings.{world_in, unknowns_in}
use Rattle.metric_sign.specs.Signs.{term_offences}
use Rattle.metric_sign.proofs.signs.+terms.Given as goal

abbrev pub invariant-least_of_parts-loop-part : goal.invariant-least_of_parts-loop-part
invariant-least_of_parts-loop-part l = l.found ≡ least_with l.fn.found (flat_map (term_offences (world_in l.reading) (unknowns_in l.reading) l.form) (take l.part-index l.parts))
