use Rattle.std.proofs.Common.{ap, ◌∙◌, List, [], ◌++◌}
use Rattle.ground_world.specs.World.{either}
use Rattle.ground_world.specs.Leaves.{constraint_leaves}
use Rattle.ground_world.specs.ShownLeaves.{constraints_of}
use Rattle.ground_world.specs.declared.leaves.ConstraintLeaf.{ConstraintLeaf}
use Rattle.ground_world.proofs.leaves.constraints.Goals as goal

pub returns : goal.returns
returns c =
    c.in_ok-push_section-2.ensures
    ∙ ap (λ l. l ++ either [] constraint_leaves c.args.problem.now.constraints)
    (c.in_ok-push_section.ensures ∙ ap (λ (o : List ConstraintLeaf). constraints_of o ++ either [] constraint_leaves c.args.domain.now.constraints) c.new-out.ensures)
