use Rattle.std.proofs.Common.{◌≡◌, ap, ◌∙◌, arith, length}
use Rattle.ground_world.specs.Shown.{world_of}
use Rattle.grounder.specs.Task.{moments, timings}
use Rattle.grounder.specs.ShownTimings.{timings_of}
use Rattle.grounder.proofs.FewSteps.{moments-few}
use Rattle.grounder.proofs.numbered_steps.with_timed.Goals as goal

pub timed_numbers-requires : goal.timed_numbers-requires
timed_numbers-requires c =
    let few = moments-few (timings (world_of c.args.grounding.now.tables) c.args.entries.now) in
    let same : length c.as_slice-2.result.now ≡ length (moments (timings (world_of c.args.grounding.now.tables) c.args.entries.now))
    = ap length (c.as_slice-2.ensures.value ∙ c.in_ok-moments.ensures ∙ ap (λ ts. moments ts) (ap timings_of c.as_slice.ensures ∙ c.in_ok-literals.ensures)) in
    omega (arith, few, same, c.requires.few, c.requires.timed, c.len.ensures)
