use Rattle.std.proofs.Common.{◌≡◌, map, take}
use Rattle.std.specs.List.{flat_map}
use Rattle.timed_meaning.specs.Answers.{told, Defined}
use Rattle.plan_validator.specs.Firsts.{all_noted}
use Rattle.plan_validator.specs.Segments.{over_all_values, over_all_note}
use Rattle.plan_validator.proofs.overalls.note_running.Given as goal

abbrev pub invariant-loop-placed : goal.invariant-loop-placed
invariant-loop-placed l = record {
  defined : Defined (flat_map (over_all_values l.parts (told l.facts l.fluents)) (take l.placed-index l.running));
  noted : l.least.place ≡ all_noted l.fn.least.place (map (over_all_note l.parts l.segment (told l.facts l.fluents)) (take l.placed-index l.running));
}
