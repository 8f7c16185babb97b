use Rattle.std.proofs.Common.{ap₂, ◌∙◌, ap, List, []}
use Rattle.std.proofs.lemmas.List.{take_all}
use Rattle.exact_lin.specs.Forms.{LinearForm}
use Rattle.task_types.specs.declared.conditions.Condition.{Condition}
use Rattle.task_types.specs.declared.conditions.Literal.{Literal}
use Rattle.ground_world.specs.Shown.{part_of, parts_of}
use Rattle.ground_world.specs.declared.parts.CondPart.{CondPart}
use Rattle.grounder.specs.ShownGrounding.{ground_of}
use Rattle.grounder.specs.Task as task
use Rattle.grounder.proofs.OneByOne.{joined_of_more}
use Rattle.grounder.proofs.goal_conditions.goal_condition.Goals as goal

pub loop-part-preserved : goal.loop-part-preserved
loop-part-preserved c =
    let g = ground_of c.args.grounding.now in
    let ps = c.args.parts.now in (
      joined_of_more ps c.loop-part.part-index c.part-item.result c.loop-part-test.true c.part-item.is part_of (task.literal_of g.facts) [] c.loop-part.literals c.push_literal.new.out c.loop-part.invariant.0 c.in_ok-push_literal.ensures,
      joined_of_more ps c.loop-part.part-index c.part-item.result c.loop-part-test.true c.part-item.is part_of (task.goal_forms_in g) [] c.loop-part.comparisons c.push_forms.new.out c.loop-part.invariant.1 c.in_ok-push_forms.ensures,
    )

pub returns : goal.returns
returns c =
    let g = ground_of c.args.grounding.now in
    let condition : List Literal → List LinearForm → Condition = λ ls fs. record { literals = ls; comparisons = fs } in
    ap₂ condition c.loop-part.invariant.0 c.loop-part.invariant.1
    ∙ ap (λ (ps : List CondPart). task.goal_condition g (parts_of ps)) (take_all c.loop-part.part-index c.args.parts.now c.loop-part-test.false)
