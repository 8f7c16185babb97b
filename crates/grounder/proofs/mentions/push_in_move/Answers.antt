use Rattle.std.proofs.Common.{◌≡◌, ap, subst, ◌∙◌, ℕ, OnOk, List, [], ◌∷◌, ◌++◌}
use Rattle.ground_world.specs.World.{ground_fluent}
use Rattle.ground_world.specs.FirstState.{unvalued_places}
use Rattle.ground_world.specs.Expressions.{mentioned}
use Rattle.ground_world.specs.Shown.{env_of, world_of}
use Rattle.ground_world.proofs.UnvaluedPlaces.{unvalued-joined}
use Rattle.grounder.proofs.mentions.push_in_move.Goals as goal

pub returns : goal.returns
returns c =
    let w = world_of c.args.tables.now in
    let e = env_of c.args.env.now in
    subst (λ (l : List ℕ). OnOk c.push_unvalued.result (c.push_unvalued.new.out ≡ l))
    (ap (λ (l : List ℕ). l ++ unvalued_places w (mentioned w e c.args.amount.now)) c.in_ok-push_fluent.ensures
    ∙ unvalued-joined w c.args.out.now ((c.args.fluent.now.at, ground_fluent w e c.args.fluent.now) ∷ []) (mentioned w e c.args.amount.now))
    c.push_unvalued.ensures
