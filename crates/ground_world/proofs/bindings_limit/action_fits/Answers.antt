use Rattle.std.proofs.Common.{refl, ap, ◌∙◌, min, List}
use Rattle.std.proofs.Math.Nat.{one-mul}
use Rattle.pddl_terms.specs.declared.trees.Group.{Group}
use Rattle.ground_world.specs.World.{columns}
use Rattle.ground_world.specs.Bindings.{choice_count}
use Rattle.ground_world.specs.Counts.{body_count}
use Rattle.ground_world.specs.Shown.{world_of}
use Rattle.ground_world.proofs.bindings_limit.action_fits.Goals as goal

pub returns : goal.returns
returns c =
    let w = world_of c.args.tables.now in
    c.fit_limits.ensures (choice_count (columns w c.args.action.now.parameters)) (body_count w c.args.action.now.body)
    (c.in_ok-outer.ensures 1 refl ∙ ap (min 1048577) (one-mul (choice_count (columns w c.as_slice.result.now)))
    ∙ ap (λ (gs : List Group). min 1048577 (choice_count (columns w gs))) c.as_slice.ensures)
    c.in_ok-parts.ensures
