use Rattle.std.specs.Borrow.{Bor}
use Rattle.std.proofs.Common.{◌≡◌, sym, ap, subst, ◌∙◌, ℕ, List, [], ◌++◌, map, OnOk, Option}
use Rattle.std.proofs.lemmas.List.{append-nil}
use Rattle.task_types.specs.declared.constraints.Trail.{Trail}
use Rattle.ground_world.specs.World.{either}
use Rattle.ground_world.specs.Leaves.{leaf_envs}
use Rattle.ground_world.specs.ShownLeaves.{text_of}
use Rattle.grounder.specs.ShownGrounding.{ground_of}
use Rattle.grounder.specs.ShownTerms.{constraint_leaf}
use Rattle.grounder.specs.Task.{trail_of}
use Rattle.grounder.proofs.constraint_terms.push_hard.Goals as goal

pub returns-in-Some : goal.returns-in-Some
returns-in-Some c =
    let own = map (trail_of (ground_of c.args.grounding.now) c.args.leaf.now.trajectory.now) (leaf_envs (ground_of c.args.grounding.now).world (constraint_leaf c.args.leaf.now)) in
    sym (append-nil c.args.out.now)
    ∙ ap (λ (n : Option (Bor (List ℕ))). c.args.out.now ++ either own (λ m. []) (text_of n)) (sym c.in-Some.is)

pub returns-in-None : goal.returns-in-None
returns-in-None c =
    let own = map (trail_of (ground_of c.args.grounding.now) c.args.leaf.now.trajectory.now) (leaf_envs (ground_of c.args.grounding.now).world (constraint_leaf c.args.leaf.now)) in
    subst (λ (l : List Trail). OnOk c.push_trails.result (c.push_trails.new.out ≡ c.args.out.now ++ l))
    (ap (λ (n : Option (Bor (List ℕ))). either own (λ m. []) (text_of n)) (sym c.in-None.is)) c.push_trails.ensures
