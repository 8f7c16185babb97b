use Rattle.std.proofs.Common.{◌≡◌, sym, subst, IfOk, List}
use Rattle.pddl_names.specs.Declarations.{Text}
use Rattle.grounder.proofs.NameSteps.{world-objects}
use Rattle.grounder.proofs.plain_parts.task_objects.Goals as goal

pub returns : goal.returns
returns c =
    subst (λ (x : List Text). IfOk c.object_names.result (λ (objects : List Text). objects ≡ x)) (sym (world-objects c.args.domain.now c.args.problem.now)) c.object_names.ensures
