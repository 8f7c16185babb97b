use Rattle.ground_world.specs.Shown.{world_of}
use Rattle.grounder.proofs.units.unit_faults.Goals as goal

pub returns : goal.returns
returns c =
    let w = world_of c.args.tables.now in
    c.both-2.ensures w _ _ c.in_ok-own.ensures (c.both.ensures w _ _ c.in_ok-preferences.ensures c.in_ok-objective.ensures)
