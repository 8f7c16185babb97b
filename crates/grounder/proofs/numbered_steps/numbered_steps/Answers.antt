use Rattle.std.proofs.Common.{ap, arith, length}
use Rattle.std.proofs.lemmas.List.{length-map}
use Rattle.grounder.specs.ShownGrounding.{ground_of}
use Rattle.grounder.specs.ShownInstances.{all_of, instance_of}
use Rattle.grounder.proofs.FewSteps.{snaps-few}
use Rattle.grounder.proofs.numbered_steps.numbered_steps.Goals as goal

pub with_timed-requires-clause-few : goal.with_timed-requires-clause-few
with_timed-requires-clause-few c =
    let few = snaps-few (ground_of c.args.grounding.now) (all_of c.args.instances.now) in
    let same = ap length c.in_ok-made.ensures.snaps in
    let many = length-map c.args.instances.now instance_of in
    omega (arith, few, same, many, c.requires.few)
