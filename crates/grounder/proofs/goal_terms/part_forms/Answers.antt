use Rattle.std.specs.List.{flat_map}
use Rattle.ground_world.specs.Conditions.{tests_in}
use Rattle.ground_world.specs.Shown.{part_of, parts_of}
use Rattle.grounder.specs.ShownGrounding.{ground_of}
use Rattle.grounder.specs.Task.{compared}
use Rattle.grounder.proofs.Pushing.{grown}
use Rattle.grounder.proofs.TermSteps.{forms-more}
use Rattle.grounder.proofs.goal_terms.part_forms.Goals as goal

pub loop-part-preserved : goal.loop-part-preserved
loop-part-preserved c =
    let g = ground_of c.args.grounding.now in
    grown (λ ps. flat_map (compared g) (flat_map tests_in (parts_of ps))) (λ p. flat_map (compared g) (tests_in (part_of p))) (forms-more g)
    c.loop-part.out c.push_forms.new.out c.args.parts.now c.loop-part.part-index c.part-item.result c.loop-part-test.true c.part-item.is c.loop-part.invariant c.in_ok-push_forms.ensures
