use Rattle.std.proofs.Common.{sym, ap, ◌∙◌, List, ◌++◌}
use Rattle.std.proofs.lemmas.List.{map-append, append-nil}
use Rattle.ground_world.specs.Shown.{world_of}
use Rattle.grounder.specs.Task.{Timing}
use Rattle.grounder.specs.ShownTimings.{timing_of, timings_of}
use Rattle.grounder.proofs.TimingSteps.{timing-Named, timing-LeftOut}
use Rattle.grounder.proofs.timings.push_literal.Goals as goal

pub returns-in_ok-push-in-Named : goal.returns-in_ok-push-in-Named
returns-in_ok-push-in-Named c =
    ap timings_of c.in_ok-push-in-Named.ensures.ok ∙ map-append timing_of c.args.out.now _
    ∙ ap (λ (l : List Timing). timings_of c.args.out.now ++ l) (timing-Named (world_of c.args.tables.now) c.args.literal.now c.in-Named.is c.in_ok-atom-in-Named.ensures)

pub returns-in-LeftOut : goal.returns-in-LeftOut
returns-in-LeftOut c =
    sym (append-nil (timings_of c.args.out.now))
    ∙ ap (λ (l : List Timing). timings_of c.args.out.now ++ l) (timing-LeftOut (world_of c.args.tables.now) c.args.literal.now c.in-LeftOut.is)
