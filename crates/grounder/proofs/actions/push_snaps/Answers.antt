use Rattle.std.proofs.Common.{◌≡◌, sym, subst, OnOk, Bool, ◌++◌}
use Rattle.ground_world.specs.Shown.{env_of}
use Rattle.grounder.specs.ShownGrounding.{ground_of}
use Rattle.grounder.specs.ShownPieces.{pieces_of}
use Rattle.grounder.specs.Building.{snaps_from}
use Rattle.grounder.proofs.actions.push_snaps.Goals as goal

pub returns-then-durative : goal.returns-then-durative
returns-then-durative c =
    let i = c.args.instance.now in
    subst (λ (b : Bool). OnOk c.push_start_and_end.result (c.push_start_and_end.new.out ≡ c.args.out.now ++ snaps_from (ground_of c.args.grounding.now) c.args.number b (env_of i.env) (pieces_of i.parts i.outline)))
    (sym c.if-durative.true) c.push_start_and_end.ensures

pub returns-else-durative : goal.returns-else-durative
returns-else-durative c =
    let i = c.args.instance.now in
    subst (λ (b : Bool). OnOk c.push_instant.result (c.push_instant.new.out ≡ c.args.out.now ++ snaps_from (ground_of c.args.grounding.now) c.args.number b (env_of i.env) (pieces_of i.parts i.outline)))
    (sym c.if-durative.false) c.push_instant.ensures
