use Rattle.std.proofs.Common.{◌≡◌, sym, ap, subst, ◌∙◌, ℕ, OnOk, List, ◌++◌}
use Rattle.std.specs.List.{flat_map}
use Rattle.std.proofs.lemmas.List.{append-nil}
use Rattle.ground_world.specs.Changes.{Change}
use Rattle.ground_world.specs.Shown.{env_of, world_of}
use Rattle.ground_world.specs.ShownChanges.{change_of}
use Rattle.grounder.specs.Instances.{assigned_by}
use Rattle.grounder.proofs.Pushing.{at_stage, off_stage}
use Rattle.grounder.proofs.assignments.push_assigned_at.Goals as goal

pub returns-then-is_same_stage : goal.returns-then-is_same_stage
returns-then-is_same_stage c =
    let f = assigned_by (world_of c.args.tables.now) (env_of c.args.env.now) in
    let x = c.args.staged.now in
    subst (λ (l : List (List ℕ)). OnOk c.push_assigned.result (c.push_assigned.new.out ≡ c.args.out.now ++ l))
    (sym (append-nil (f (change_of x.change))) ∙ ap (flat_map f) (sym (at_stage c.args.stage.now x.stage (change_of x.change) (sym c.is_same_stage.ensures ∙ c.if-is_same_stage.true)))) c.push_assigned.ensures

pub returns-else-is_same_stage : goal.returns-else-is_same_stage
returns-else-is_same_stage c =
    let f = assigned_by (world_of c.args.tables.now) (env_of c.args.env.now) in
    let x = c.args.staged.now in
    sym (append-nil c.args.out.now)
    ∙ ap (λ (l : List Change). c.args.out.now ++ flat_map f l) (sym (off_stage c.args.stage.now x.stage (change_of x.change) (sym c.is_same_stage.ensures ∙ c.if-is_same_stage.false)))
