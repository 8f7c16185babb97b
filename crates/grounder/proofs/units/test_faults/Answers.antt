use Rattle.std.proofs.Common.{ap, ◌∙◌, ℕ, List, ◌++◌}
use Rattle.std.specs.List.{flat_map}
use Rattle.ground_world.specs.Conditions.{tests_in}
use Rattle.ground_world.specs.FirstState.{unvalued_places}
use Rattle.ground_world.specs.Shown.{world_of, parts_of}
use Rattle.ground_world.specs.declared.operations.Flaw.{Flaw}
use Rattle.grounder.specs.Answer.{unit_of_tests}
use Rattle.grounder.specs.Bindings.{test_flaws}
use Rattle.grounder.specs.Instances.{test_mentions}
use Rattle.grounder.proofs.UnitSteps.{least-unit}
use Rattle.grounder.proofs.units.test_faults.Goals as goal

pub returns : goal.returns
returns c =
    let w = world_of c.args.tables.now in
    let ts = flat_map tests_in (parts_of c.args.parts.now) in
    least-unit w (unit_of_tests w ts) c.as_slice.result.now c.as_slice-2.result.now c.unit_places.result
    (c.as_slice.ensures ∙ c.in_ok-push_in_parts.ensures ∙ ap (λ (l : List ℕ). l ++ unvalued_places w (flat_map (test_mentions w) ts)) c.new-lacking.ensures)
    (c.as_slice-2.ensures ∙ c.in_ok-push_of_parts.ensures ∙ ap (λ (l : List Flaw). l ++ test_flaws w ts) c.new-flaws.ensures)
    c.unit_places.ensures.wide c.unit_places.ensures.none
