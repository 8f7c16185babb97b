use Rattle.std.proofs.Common.{◌≡◌, ap, subst, ◌∙◌, List, [], ◌++◌, IfOk}
use Rattle.task_types.specs.declared.conditions.Condition.{Condition}
use Rattle.ground_world.specs.Conditions.{Part}
use Rattle.ground_world.specs.Shown.{parts_of}
use Rattle.ground_world.specs.declared.parts.CondPart.{CondPart}
use Rattle.grounder.specs.ShownGrounding.{ground_of}
use Rattle.grounder.specs.Task.{goal_condition}
use Rattle.grounder.specs.Terms.{goal_parts}
use Rattle.grounder.proofs.goal_conditions.goal.Goals as goal

pub returns : goal.returns
returns c =
    let g = ground_of c.args.grounding.now in
    subst (λ (ps : List Part). IfOk c.goal_condition.result (λ (condition : Condition). condition ≡ goal_condition g ps))
    (ap parts_of c.as_slice.ensures ∙ c.in_ok-push_goal_parts.ensures ∙ ap (λ (l : List CondPart). parts_of l ++ goal_parts g.world [] c.args.tree.now) c.new-parts.ensures)
    c.goal_condition.ensures
