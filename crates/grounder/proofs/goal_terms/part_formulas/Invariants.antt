use Rattle.std.proofs.Common.{◌≡◌, map, take}
use Rattle.std.specs.List.{flat_map}
use Rattle.ground_world.specs.Shown.{env_of}
use Rattle.grounder.specs.ShownGrounding.{ground_of}
use Rattle.grounder.specs.ShownPreferences.{preferences_of}
use Rattle.grounder.specs.Task.{fact_number}
use Rattle.grounder.specs.Terms.{formula, formulas_in}
use Rattle.grounder.proofs.goal_terms.part_formulas.Given as goal

abbrev pub invariant-loop-part : goal.invariant-loop-part
invariant-loop-part l =
    l.out ≡ map (formula (ground_of l.grounding).world (fact_number (ground_of l.grounding)) (env_of l.env)) (flat_map formulas_in (preferences_of (take l.part-index l.parts)))
