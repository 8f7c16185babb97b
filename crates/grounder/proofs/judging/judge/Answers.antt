use Rattle.std.proofs.Common.{◌≡◌, subst, List}
use Rattle.std.specs.Prelude.{IfOk}
use Rattle.ground_world.specs.Changes.{Staged}
use Rattle.ground_world.specs.Conditions.{Part}
use Rattle.ground_world.specs.Shown.{env_of, world_of}
use Rattle.ground_world.specs.ShownBounds.{bounds_of}
use Rattle.ground_world.specs.ShownChanges.{changes_of}
use Rattle.grounder.specs.Answer.{least}
use Rattle.grounder.specs.Bindings.{keeps, wides_in}
use Rattle.grounder.specs.declared.judging.Finding.{Finding}
use Rattle.grounder.proofs.judging.judge.Goals as goal

pub returns-clause-kept : goal.returns-clause-kept
returns-clause-kept c =
    let w = world_of c.args.tables.now in
    let e = env_of c.args.env.now in
    let o = c.args.outline.now in
    subst (λ (ps : List (Staged Part)). IfOk c.judge_parts.result (λ (f : Finding). f.kept ≡ keeps w e (record { conditions = ps; bounds = bounds_of o.bounds; changes = changes_of o.changes })))
    c.in_ok-parts.ensures c.judge_parts.ensures.kept

pub returns-clause-wide : goal.returns-clause-wide
returns-clause-wide c =
    let w = world_of c.args.tables.now in
    let e = env_of c.args.env.now in
    let o = c.args.outline.now in
    subst (λ (ps : List (Staged Part)). IfOk c.judge_parts.result (λ (f : Finding). f.wide ≡ least (wides_in w e (record { conditions = ps; bounds = bounds_of o.bounds; changes = changes_of o.changes }))))
    c.in_ok-parts.ensures c.judge_parts.ensures.wide
