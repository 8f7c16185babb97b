use Rattle.std.proofs.Common.{ap, subst, ◌∙◌, List, [], ◌∷◌, ◌++◌, IfOk}
use Rattle.std.specs.List.{flat_map}
use Rattle.ground_world.specs.Conditions.{Part, tests_in}
use Rattle.ground_world.specs.Shown.{world_of, parts_of}
use Rattle.ground_world.specs.declared.parts.CondPart.{CondPart}
use Rattle.grounder.specs.Answer.{unit_of_tests}
use Rattle.grounder.specs.ShownUnits.{AreLeast}
use Rattle.grounder.specs.Terms.{goal_parts}
use Rattle.grounder.specs.declared.fault_places.FaultPlaces.{FaultPlaces}
use Rattle.grounder.proofs.units.goal_faults.Goals as goal

pub returns : goal.returns
returns c =
    let w = world_of c.args.tables.now in
    subst (λ (ps : List Part). IfOk c.test_faults.result (λ (found : FaultPlaces). AreLeast w (unit_of_tests w (flat_map tests_in ps) ∷ []) found))
    (ap parts_of c.as_slice.ensures ∙ c.in_ok-push_goal_parts.ensures ∙ ap (λ (l : List CondPart). parts_of l ++ goal_parts w [] c.args.goal.now) c.new-parts.ensures)
    c.test_faults.ensures
