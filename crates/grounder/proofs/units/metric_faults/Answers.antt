use Rattle.std.proofs.Common.{sym, ap, ◌∙◌, ℕ, List, [], ◌++◌}
use Rattle.std.proofs.lemmas.List.{append-nil}
use Rattle.ground_world.specs.Expressions.{mentioned, reckoned}
use Rattle.ground_world.specs.FirstState.{unvalued_places}
use Rattle.ground_world.specs.Readings.{unknowns_of}
use Rattle.ground_world.specs.Shown.{world_of}
use Rattle.ground_world.specs.declared.operations.Flaw.{Flaw}
use Rattle.grounder.specs.Units.{metric_unit}
use Rattle.grounder.proofs.UnitSteps.{least-unit}
use Rattle.grounder.proofs.units.metric_faults.Goals as goal

pub returns : goal.returns
returns c =
    let w = world_of c.args.tables.now in
    let us = unknowns_of c.args.names.now in
    let e = c.args.metric.now.expression in
    least-unit w (metric_unit w us c.args.metric.now) c.as_slice.result.now c.as_slice-2.result.now c.unit_places.result
    (c.as_slice.ensures ∙ c.in_ok-push_unvalued.ensures ∙ ap (λ (l : List ℕ). l ++ unvalued_places w (mentioned w [] e)) c.new-lacking.ensures)
    (c.as_slice-2.ensures ∙ c.in_ok-_value.ensures.flaws ∙ ap (λ (l : List Flaw). l ++ (reckoned w us [] e).flaws) c.new-flaws.ensures ∙ sym (append-nil (reckoned w us [] e).flaws))
    c.unit_places.ensures.wide c.unit_places.ensures.none
