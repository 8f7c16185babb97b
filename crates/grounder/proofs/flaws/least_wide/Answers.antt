use Rattle.std.proofs.Common.{refl, ◌∙◌}
use Rattle.ground_world.specs.declared.operations.Flaw.TheVariants.{TooWide, ZeroDivisor}
use Rattle.grounder.proofs.Leasts.{SoFar, wide-more, wide-stops, flaw_read}
use Rattle.grounder.proofs.flaws.least_wide.Goals as goal

pub returns-in-ZeroDivisor : goal.returns-in-ZeroDivisor
returns-in-ZeroDivisor c = wide-stops c.args.flaws.now c.loop-flaw.flaw-index (ZeroDivisor c.in-ZeroDivisor.field-0) c.loop-flaw-test.true
    (flaw_read c.args.flaws.now c.loop-flaw.flaw-index (TooWide 0) (ZeroDivisor c.in-ZeroDivisor.field-0) c.loop-flaw-test.true c.in-ZeroDivisor.is)
    c.loop-flaw.found c.in-ZeroDivisor.field-0 c.loop-flaw.invariant.0 refl

pub loop-flaw-preserved : goal.loop-flaw-preserved
loop-flaw-preserved c =
    let a = wide-more c.args.flaws.now c.loop-flaw.flaw-index (TooWide c.in-TooWide.place) c.loop-flaw-test.true
    (flaw_read c.args.flaws.now c.loop-flaw.flaw-index (TooWide 0) (TooWide c.in-TooWide.place) c.loop-flaw-test.true c.in-TooWide.is)
    c.loop-flaw.found c.in-TooWide.place c.loop-flaw.invariant refl in
    (c.lesser-found.ensures ∙ a.0, a.1)
