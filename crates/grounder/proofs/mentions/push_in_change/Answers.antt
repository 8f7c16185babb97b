use Rattle.std.proofs.Common.{◌≡◌, sym, subst, OnOk, ◌++◌}
use Rattle.ground_world.specs.FirstState.{unvalued_places}
use Rattle.ground_world.specs.Shown.{env_of, world_of}
use Rattle.ground_world.specs.ShownChanges.{change_of}
use Rattle.ground_world.specs.declared.changes.Change.{Change}
use Rattle.grounder.specs.Instances.{change_mentions}
use Rattle.grounder.proofs.mentions.push_in_change.Goals as goal

pub returns-in-Moves : goal.returns-in-Moves
returns-in-Moves c =
    let w = world_of c.args.tables.now in
    subst (λ (x : Change). OnOk c.push_in_move.result (c.push_in_move.new.out ≡ c.args.out.now ++ unvalued_places w (change_mentions w (env_of c.args.env.now) (change_of x))))
    (sym c.in-Moves.is) c.push_in_move.ensures

pub returns-in-Flows : goal.returns-in-Flows
returns-in-Flows c =
    let w = world_of c.args.tables.now in
    subst (λ (x : Change). OnOk c.push_in_flow.result (c.push_in_flow.new.out ≡ c.args.out.now ++ unvalued_places w (change_mentions w (env_of c.args.env.now) (change_of x))))
    (sym c.in-Flows.is) (c.push_in_flow.ensures c.in-Flows.field-0)
