use Rattle.std.proofs.Common.{OnOk, ◌≡◌, sym, ap, subst, ◌∙◌, ℕ, [], List, ◌++◌}
use Rattle.std.proofs.lemmas.List.{append-nil}
use Rattle.pddl_terms.specs.declared.trees.Atom.{Atom}
use Rattle.pddl_terms.specs.declared.trees.Side.{Side}
use Rattle.ground_world.specs.World.{GroundAtom}
use Rattle.ground_world.specs.Conditions.{side_expression}
use Rattle.ground_world.specs.Expressions.{mentioned}
use Rattle.ground_world.specs.FirstState.{unvalued_places}
use Rattle.ground_world.specs.Shown.{env_of, world_of}
use Rattle.ground_world.proofs.Walks as walk
use Rattle.ground_world.proofs.comparing.push_side_unvalued.Goals as goal

pub returns-in-Variable : goal.returns-in-Variable
returns-in-Variable c =
    let w = world_of c.args.tables.now in
    let e = env_of c.args.env.now in
    sym (append-nil c.args.out.now)
    ∙ ap (λ (l : List (ℕ × GroundAtom)). c.args.out.now ++ unvalued_places w l)
    (sym (ap (λ (s : Side). mentioned w e (side_expression s)) c.in-Variable.is ∙ walk.mentioned-LeftOut w e c.in-Variable.field-0.at))

pub returns-in-Bare : goal.returns-in-Bare
returns-in-Bare c =
    let w = world_of c.args.tables.now in
    let e = env_of c.args.env.now in
    let a : Atom = record { at = c.in-Bare.name.at; name = c.in-Bare.name; terms = [] } in
    subst (λ (l : List (ℕ × GroundAtom)). OnOk c.push_bare_unvalued.result (c.push_bare_unvalued.new.out ≡ c.args.out.now ++ unvalued_places w l))
    (sym (ap (λ (s : Side). mentioned w e (side_expression s)) c.in-Bare.is ∙ walk.mentioned-Fluent w e a)) c.push_bare_unvalued.ensures
