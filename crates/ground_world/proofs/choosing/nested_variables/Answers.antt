use Rattle.std.proofs.Common.{sym, ap, ◌∙◌, ◌++◌, List, ℕ}
use Rattle.std.specs.List.{flat_map}
use Rattle.std.proofs.lemmas.List.{take_all}
use Rattle.std.proofs.lemmas.List.Folds.{flat_map-map}
use Rattle.pddl_names.specs.Declarations.{Text}
use Rattle.ground_world.specs.World.{variable_names, columns}
use Rattle.ground_world.specs.Shown.{world_of}
use Rattle.ground_world.proofs.Steps.{parts_more}
use Rattle.ground_world.proofs.choosing.nested_variables.Goals as goal

pub loop-groups-preserved : goal.loop-groups-preserved
loop-groups-preserved c =
    let w = world_of c.args.tables.now in
    let at = c.loop-groups.groups-index in (
      c.in_ok-push_variables.ensures.names ∙ ap (λ (l : List Text). l ++ variable_names c.groups-item.result.now) c.loop-groups.invariant.0
          ∙ sym (parts_more (λ g. variable_names g.now) c.args.around.now at c.groups-item.result c.loop-groups-test.true c.groups-item.is),
      c.in_ok-push_variables.ensures.columns ∙ ap (λ (l : List (List ℕ)). l ++ columns w c.groups-item.result.now) c.loop-groups.invariant.1
          ∙ sym (parts_more (λ g. columns w g.now) c.args.around.now at c.groups-item.result c.loop-groups-test.true c.groups-item.is),
    )

pub returns-clause-names : goal.returns-clause-names
returns-clause-names c =
    c.loop-groups.invariant.0 ∙ ap (flat_map (λ g. variable_names g.now)) (take_all c.loop-groups.groups-index c.args.around.now c.loop-groups-test.false)
    ∙ sym (flat_map-map variable_names (λ g. g.now) c.args.around.now)

pub returns-clause-columns : goal.returns-clause-columns
returns-clause-columns c =
    let w = world_of c.args.tables.now in
    c.loop-groups.invariant.1 ∙ ap (flat_map (λ g. columns w g.now)) (take_all c.loop-groups.groups-index c.args.around.now c.loop-groups-test.false)
    ∙ sym (flat_map-map (columns w) (λ g. g.now) c.args.around.now)
